-- How often a signal has switched along a walk: what a graph's values can be.
use Rattle.std.proofs.Common.{◌≡◌, ℕ, not, Bool, true, false, List, [], ◌∷◌, refl, sym, ap, subst, ◌∙◌, inl, inr}
use Rattle.std.proofs.lemmas.Bool.{cases_eq}
use Rattle.std.proofs.lemmas.Nat.Bits.{bit_at-zero}
use Rattle.si_base.specs.declared.ids.Event.{Event}
use Rattle.si_base.specs.Bits.{bit, flip}
use Rattle.si_base.specs.Graph.{StateGraph, Step, Walk}
use Rattle.si_base.specs.Codes.{AreValues}
pub use Rattle.si_base.specs.Codes.{parity}
use Rattle.si_base.proofs.BitFacts.{flip-same, flip-other}
use Rattle.si_base.proofs.StepCodes.{turns, old_value}

-- the value, turned if the test holds
abbrev pub turn : Bool → Bool → Bool
turn true v = not v
turn false v = v

turn_not : (p v : Bool) → turn p (not v) ≡ turn (not p) v
turn_not true true = refl
turn_not true false = refl
turn_not false true = refl
turn_not false false = refl

turn_twice : (p v : Bool) → turn p (turn p v) ≡ v
turn_twice true true = refl
turn_twice true false = refl
turn_twice false v = refl

-- what a step does to the value of signal b
after_step : (g : StateGraph) (b : ℕ) (v : ℕ → Bool) (k s t : ℕ) (e : Event) → AreValues g b v → Step g s e t
    → turn (bit k b) (v t) ≡ turn (bit (flip k e.sig) b) (v s)
after_step g b v k s t e are step = elim (cases_eq b e.sig) [
  | inl same ↦ (
      let own : Step g s (record { sig = b; up = e.up }) t =
      subst (λ (n : ℕ). Step g s (record { sig = n; up = e.up }) t) (sym same) step in
      let flipped : bit (flip k e.sig) b ≡ not (bit k b) =
      subst (λ (n : ℕ). bit (flip k n) b ≡ not (bit k b)) same (flip-same k b) in
      rw (turns g b v s t e.up are own, flipped) (turn_not (bit k b) (v s)))
  | inr other ↦ rw (are.keeps s t e (λ same. other (sym same)) step, flip-other k e.sig b other) refl
]

-- along a walk the value turns as often as the signal switches
pub values_along : (g : StateGraph) (b : ℕ) (v : ℕ → Bool) (s : ℕ) (es : List Event) (t : ℕ) → AreValues g b v
    → Walk g s es t → v t ≡ turn (bit (parity es) b) (v s)
values_along g b v s [] t are walk = rw (zero_bit b) (sym (ap v walk))
  where
    zero_bit : (n : ℕ) → bit 0 n ≡ false
    zero_bit n = rw bit_at-zero refl
values_along g b v s (e ∷ es) t are walk = values_along g b v walk.0 es t are walk.2
    ∙ after_step g b v (parity es) s walk.0 e are walk.1

-- and the start value is shown by each arc of the signal
pub start_shown : (g : StateGraph) (b : ℕ) (v : ℕ → Bool) (s t : ℕ) (up : Bool) (ws : List Event) → AreValues g b v
    → Step g s (record { sig = b; up = up }) t → Walk g g.start ws s → v g.start ≡ turn (bit (parity ws) b) (not up)
start_shown g b v s t up ws are step to_s =
    sym (turn_twice (bit (parity ws) b) (v g.start))
    ∙ ap (turn (bit (parity ws) b)) (sym (values_along g b v g.start ws s are to_s)
    ∙ old_value g b v s t up are step)
