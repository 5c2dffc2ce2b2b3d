-- The arcs as they are made are the steps of the handshakes.
use Rattle.std.proofs.Common.{◌≡◌, ℕ, zero, suc, ◌+◌, ◌*◌, ◌/◌, ◌%◌, ◌^◌, ◌<◌, ◌↔◌, List, [], ◌∷◌, ◌++◌, length, map}
use Rattle.std.proofs.Common.{All, Contains, sym, ap₂, subst, ◌∙◌, arith, inl, inr}
use Rattle.std.specs.List.{range_with_len}
use Rattle.std.proofs.Math.Nat.{mul_comm}
use Rattle.std.proofs.lemmas.Nat.{div_below, mul-add-lt, div-mul-add, mod-mul-add}
use Rattle.std.proofs.lemmas.List.FromFn.{map-range_with_len_more, length-map-range_with_len, get_or-map-range_with_len}
use Rattle.si_base.specs.declared.ids.Event.{Event}
use Rattle.si_base.specs.declared.graph.Edge.{Edge}
use Rattle.si_base.specs.Graph.{arc}
use Rattle.si_handshakes.specs.Handshakes.{phase, ending, GoesOn}
use Rattle.si_handshakes.specs.Loops.Arcs.{next_state, arc_of, arc_at}
use Rattle.si_handshakes.proofs.DigitLemmas.{phase_below, put, next_is}
use Rattle.si_handshakes.proofs.HandshakePhases.{its_signal, goes_on, target_below, target_is}

-- the first arcs, so many
abbrev pub made : ℕ → ℕ → List Edge
made n count = map (arc_at n) (range_with_len 0 count)

pub made_more : (n k : ℕ) (now new : List Edge) (a : Edge) → now ≡ made n k → a ≡ arc_at n k → new ≡ now ++ a ∷ []
    → new ≡ made n (k + 1)
made_more n k now new a so_far is pushed =
    pushed ∙ ap₂ (λ (xs : List Edge) (x : Edge). xs ++ x ∷ []) so_far is
    ∙ sym (map-range_with_len_more (arc_at n) 0 k k (omega arith))

pub length-made : (n count : ℕ) → length (made n count) ≡ count
length-made n count = length-map-range_with_len (arc_at n) 0 count

-- arc k belongs to a state and a handshake
none_made : (n k : ℕ) → k < n * 4 ^ n → 0 < n
none_made zero k within = absurd (omega arith)
none_made (suc n) k within = omega arith

its_state : (n k : ℕ) → k < n * 4 ^ n → k / n < 4 ^ n
its_state n k within = div_below k n (4 ^ n) (none_made n k within) (omega (arith, mul_comm n (4 ^ n)))

pub its_handshake : (n k : ℕ) → k < n * 4 ^ n → k % n < n
its_handshake n k within = let some : 0 < n = none_made n k within in omega arith

-- what holds of an arc that is made
pub record IsStep (n : ℕ) (a : Edge) : Type 0 where
  pub from : a.from < 4 ^ n
  pub sig : a.event.sig < n + n
  pub to : a.to < 4 ^ n
  pub step : GoesOn n a.from a.event a.to

arc_steps : (n m i : ℕ) → m < 4 ^ n → i < n → IsStep n (arc_of n m i)
arc_steps n m i below within =
    let target : put i m ((phase m i + 1) % 4) ≡ next_state m i = sym (next_is m i) in
    let P : ℕ → Type 0 = λ t. GoesOn n m (ending n i (phase m i)) t in
    record {
      from = below;
      sig = elim (its_signal n i (phase m i) (phase_below m i)) [ inl own ↦ omega arith | inr own ↦ omega arith ];
      to = subst (λ t. t < 4 ^ n) target (target_below n m i within below);
      step = subst P target (goes_on n m i within);
    }

made_step : (n k : ℕ) → k < n * 4 ^ n → IsStep n (arc_at n k)
made_step n k within = arc_steps n (k / n) (k % n) (its_state n k within) (its_handshake n k within)

pub all_steps : (n : ℕ) → All (IsStep n) (made n (n * 4 ^ n))
all_steps n k d within =
    let inside : k < n * 4 ^ n = omega (arith, length-made n (n * 4 ^ n)) in
    subst (IsStep n) (sym (get_or-map-range_with_len (arc_at n) 0 (n * 4 ^ n) k k d inside (omega arith)))
    (made_step n k inside)

step_made : (n m : ℕ) (e : Event) (t : ℕ) → m < 4 ^ n → t < 4 ^ n → GoesOn n m e t
    → Contains (made n (n * 4 ^ n)) (arc m e t)
step_made n m e t below also g =
    let i = g.handshake in
    let k : ℕ = m * n + i in
    let inside : k < n * 4 ^ n = mul-add-lt m n i (4 ^ n) below g.within in
    let state : k / n ≡ m = div-mul-add m n i g.within in
    let handshake : k % n ≡ i = mod-mul-add m n i g.within in
    let target : next_state m i ≡ t = next_is m i ∙ sym (target_is n m e t below also g) in
    let is : arc_at n k ≡ arc m e t =
    ap₂ (arc_of n) state handshake ∙ ap₂ (arc m) (sym g.event) target in (
      k,
      omega (arith, length-made n (n * 4 ^ n)),
      get_or-map-range_with_len (arc_at n) 0 (n * 4 ^ n) k k (arc m e t) inside (omega arith) ∙ is,
    )

pub made_steps : (n m : ℕ) (e : Event) (t : ℕ)
    → Contains (made n (n * 4 ^ n)) (arc m e t) ↔ ((m < 4 ^ n) × (t < 4 ^ n) × GoesOn n m e t)
made_steps n m e t = (
  (λ there.
      let is : IsStep n (arc m e t) =
      subst (IsStep n) there.2 (all_steps n there.0 (arc m e t) there.1) in
      (is.from, is.to, is.step)),
  (λ step. step_made n m e t step.0 step.1 step.2),
)
