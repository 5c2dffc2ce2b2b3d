-- What a step does to the codes of its two states.
use Rattle.std.proofs.Common.{◌≡◌, ℕ, ◌⊎◌, ◌<◌, ◌≤◌, ◌==◌, ◌^◌, not, Bool, true, false, refl, sym, ap, subst, ◌∙◌}
use Rattle.std.proofs.Common.{arith, length, inl, inr}
use Rattle.std.proofs.lemmas.Bool.{cases_eq, cases_lt}
use Rattle.std.proofs.lemmas.Nat.Bits.{bit_at_above}
use Rattle.std.proofs.lemmas.Option.{slice_get_within}
use Rattle.si_base.specs.declared.ids.Event.{Event}
use Rattle.si_base.specs.declared.graph.Edge.{Edge}
use Rattle.si_base.specs.Bits.{bit, flip}
use Rattle.si_base.specs.Graph.{StateGraph, Step, arc, IsGraph, IsNonInput}
use Rattle.si_base.specs.Codes.{CodedGraph, code, IsCoded, AreValues}
use Rattle.si_base.proofs.BitFacts.{flip-same, flip-other, same_codes}

-- a step has its parts in range
pub step_within : (g : StateGraph) (s : ℕ) (e : Event) (t : ℕ) → IsGraph g → Step g s e t → (s < g.states)
    × (e.sig < length g.signals) × (t < g.states)
step_within g s e t is step =
    let P : Edge → Type 0 = λ a. (a.from < g.states) × (a.event.sig < length g.signals) × (a.to < g.states) in
    subst P step.2 (is.within step.0 (arc s e t) step.1)

-- a step turns the value of its own signal
pub turns : (g : StateGraph) (a : ℕ) (v : ℕ → Bool) (s t : ℕ) (up : Bool) → AreValues g a v
    → Step g s (record { sig = a; up = up }) t → v t ≡ not (v s)
turns g a v s t true are step = let h = are.rises s t step in rw (h.0, h.1) refl
turns g a v s t false are step = let h = are.falls s t step in rw (h.0, h.1) refl

-- before the step the signal has the value from which it switches
pub old_value : (g : StateGraph) (a : ℕ) (v : ℕ → Bool) (s t : ℕ) (up : Bool) → AreValues g a v
    → Step g s (record { sig = a; up = up }) t → v s ≡ not up
old_value g a v s t true are step = (are.rises s t step).0
old_value g a v s t false are step = (are.falls s t step).0

-- a code has no bit past the signals
pub code_fits : (c : CodedGraph) (s : ℕ) → IsCoded c → s < c.graph.states → code c s < 2 ^ length c.graph.signals
code_fits c s is there =
    let within : s < length c.codes = omega (arith, is.count) in
    is.no_more s 0 within

pub no_bit : (k n i : ℕ) → k < 2 ^ n → n ≤ i → bit k i ≡ false
no_bit k n i small above = ap (λ (x : ℕ). x == 1) (bit_at_above k n i small above)

bit_of_step : (c : CodedGraph) (s : ℕ) (e : Event) (t i : ℕ) → IsCoded c → Step c.graph s e t
    → ((i ≡ e.sig) ⊎ (i ≡ e.sig → ⊥)) → bit (code c t) i ≡ bit (flip (code c s) e.sig) i
bit_of_step c s e t i is step (inl same) =
    let parts = step_within c.graph s e t is.graph_is step in
    let P : ℕ → Type 0 = λ k. bit (code c t) k ≡ bit (flip (code c s) e.sig) k in
    subst P (sym same) (turns c.graph e.sig (λ a. bit (code c a) e.sig) s t e.up (is.values e.sig parts.1) step
    ∙ sym (flip-same (code c s) e.sig))
bit_of_step c s e t i is step (inr other) =
    let parts = step_within c.graph s e t is.graph_is step in
    elim (cases_lt i (length c.graph.signals)) [
      | inl below ↦ (is.values i below).keeps s t e (λ same. other (sym same)) step
          ∙ sym (flip-other (code c s) e.sig i other)
      | inr above ↦ no_bit _ _ i (code_fits c t is parts.2) above ∙ sym (no_bit _ _ i (code_fits c s is parts.0) above)
          ∙ sym (flip-other (code c s) e.sig i other)
    ]

-- a step flips the bit of its signal
pub code_of_step : (c : CodedGraph) (s : ℕ) (e : Event) (t : ℕ) → IsCoded c → Step c.graph s e t
    → code c t ≡ flip (code c s) e.sig
code_of_step c s e t is step = same_codes (code c t) (flip (code c s) e.sig)
    (λ i. bit_of_step c s e t i is step (cases_eq i e.sig))

pub signal_there : (c : CodedGraph) (z : ℕ) → IsNonInput c.graph.signals z → z < length c.graph.signals
signal_there c z driven = slice_get_within c.graph.signals z driven.0 driven.1
