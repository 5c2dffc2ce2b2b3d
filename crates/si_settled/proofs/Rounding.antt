-- Rounds end at the start values.
use Rattle.std.proofs.Common.{◌≡◌, ◌≢◌, ℕ, ◌<◌, ◌≤◌, ◌⊎◌, not, Bool, true, false, List, [], ◌∷◌, refl, sym, ap, subst, ◌∙◌}
use Rattle.std.proofs.Common.{arith, length, Contains, inl, inr, zero, suc}
use Rattle.std.proofs.lemmas.Bool.{true≢false, cases_Bool, cases_eq}
use Rattle.std.proofs.lemmas.Option.{slice_get_within}
use mathlib.Core.Bool.{beq}
use Rattle.si_base.proofs.GraphSteps.{beq-true}
use Rattle.si_base.specs.Bits.{bit, flip}
use Rattle.si_base.specs.Graph.{IsNonInput}
use Rattle.si_base.specs.Netlist.{Netlist, gate_value, IsExcited}
use Rattle.si_base.proofs.BitFacts.{flip-same, flip-other}
use Rattle.si_settled.specs.Settling.{Switches, Runs, IsRound, Rounds, Agrees, IsForced, SettlesBy, Settles}
use Rattle.si_settled.specs.Laws.{IsAtStart}

-- ---- lists of signals
pub tail_there : (y z : ℕ) (zs : List ℕ) → Contains zs z → Contains (y ∷ zs) z
tail_there y z zs h = (suc h.0, omega (arith, h.1), h.2)

pub there_cases : (y z : ℕ) (zs : List ℕ) → Contains (y ∷ zs) z → (z ≡ y) ⊎ Contains zs z
there_cases y z zs (zero, small, is) = inl (sym is)
there_cases y z zs (suc k, small, is) = inr (k, omega (arith, small), is)

-- ---- what is known stays
abbrev Closed : Netlist → List ℕ → List ℕ → Type 0
Closed n held known = (z : ℕ) → Contains known z → Contains held z ⊎ IsForced n known z

not_excited : (n : Netlist) (known : List ℕ) (w z : ℕ) → Agrees n known w → Contains known z → IsForced n known z
    → IsExcited n w z → ⊥
not_excited n known w z agrees there forced excited =
    excited.differs (forced w agrees ∙ sym (agrees z there))

switch_stays : (n : Netlist) (held known : List ℕ) (w z v : ℕ) → Closed n held known → Agrees n known w
    → Switches n held w z v → Agrees n known v
switch_stays n held known w z v closed agrees switch a there = elim (cases_eq a z) [
  | inl same ↦ absurd (elim (closed a there) [
    | inl kept ↦ switch.free (subst (λ (i : ℕ). Contains held i) same kept)
    | inr forced ↦
        not_excited n known w a agrees there forced (subst (λ (i : ℕ). IsExcited n w i) (sym same) switch.excited)
  ])
  | inr other ↦ ap (λ (c : ℕ). bit c a) switch.new_values ∙ flip-other w z a other ∙ agrees a there
]

pub run_stays : (n : Netlist) (held known : List ℕ) (w : ℕ) (zs : List ℕ) (v : ℕ) → Closed n held known
    → Agrees n known w → Runs n held w zs v → Agrees n known v
run_stays n held known w [] v closed agrees runs = subst (λ (x : ℕ). Agrees n known x) runs agrees
run_stays n held known w (z ∷ zs) v closed agrees runs =
    run_stays n held known runs.0 zs v closed (switch_stays n held known w z runs.0 closed agrees runs.1) runs.2

more_agree : (n : Netlist) (known : List ℕ) (z w : ℕ) → Agrees n known w → bit w z ≡ bit n.start z
    → Agrees n (z ∷ known) w
more_agree n known z w agrees is a there = elim (there_cases z a known there) [
  | inl same ↦ ap (bit w) same ∙ is ∙ ap (bit n.start) (sym same)
  | inr old ↦ agrees a old
]

fewer_agree : (n : Netlist) (known : List ℕ) (z w : ℕ) → Agrees n (z ∷ known) w → Agrees n known w
fewer_agree n known z w agrees a there = agrees a (tail_there z a known there)

more_closed : (n : Netlist) (held known : List ℕ) (z : ℕ) → Closed n held known → IsForced n known z
    → Closed n held (z ∷ known)
more_closed n held known z closed forced a there = elim (there_cases z a known there) [
  | inl same ↦ inr (λ w agrees. (let P : ℕ → Type 0 = λ i. gate_value n i w ≡ bit n.start i in
      subst P (sym same) (forced w (fewer_agree n known z w agrees))))
  | inr old ↦ elim (closed a old) [
    | inl kept ↦ inl kept
    | inr was ↦ inr (λ w agrees. was w (fewer_agree n known z w agrees))
  ]
]

-- ---- a gate that is forced comes to its value in a round
same_if : (a b : Bool) → ((a ≢ b) → ⊥) → a ≡ b
same_if true true h = refl
same_if false false h = refl
same_if true false h = absurd (h (λ e. true≢false e))
same_if false true h = absurd (h (λ e. true≢false (sym e)))

other_if : (a b : Bool) → a ≢ b → not b ≡ a
other_if true true h = absurd (h refl)
other_if false false h = absurd (h refl)
other_if true false h = refl
other_if false true h = refl

-- where z rests it has its value
at_rest : (n : Netlist) (known : List ℕ) (w z : ℕ) → IsNonInput n.signals z → IsForced n known z → Agrees n known w
    → (IsExcited n w z → ⊥) → bit w z ≡ bit n.start z
at_rest n known w z gate forced agrees rests =
    sym (same_if (gate_value n z w) (bit w z) (λ differs. rests (record { gate = gate; differs = differs })))
    ∙ forced w agrees

-- and after it switched
at_switch : (n : Netlist) (held known : List ℕ) (w z v : ℕ) → IsForced n known z → Agrees n known w
    → Switches n held w z v → bit v z ≡ bit n.start z
at_switch n held known w z v forced agrees switch =
    ap (λ (c : ℕ). bit c z) switch.new_values ∙ flip-same w z
    ∙ other_if (gate_value n z w) (bit w z) switch.excited.differs ∙ forced w agrees

after_switch : (n : Netlist) (held known : List ℕ) (w : ℕ) (zs : List ℕ) (v z : ℕ) → Closed n held known
    → IsForced n known z → Agrees n known w → Runs n held w zs v → Contains zs z → Agrees n (z ∷ known) v
after_switch n held known w [] v z closed forced agrees runs there = absurd (omega (arith, there.1))
after_switch n held known w (y ∷ ys) v z closed forced agrees runs there =
    let next = switch_stays n held known w y runs.0 closed agrees runs.1 in
    elim (there_cases y z ys there) [
      | inl same ↦
          (let P : ℕ → Type 0 = λ i. Switches n held w i runs.0 in
          let is = at_switch n held known w z runs.0 forced agrees (subst P (sym same) runs.1) in
          run_stays n held (z ∷ known) runs.0 ys v (more_closed n held known z closed forced)
          (more_agree n known z runs.0 next is) runs.2)
      | inr later ↦ after_switch n held known runs.0 ys v z closed forced next runs.2 later
    ]

round_adds : (n : Netlist) (held known : List ℕ) (w : ℕ) (zs : List ℕ) (v z : ℕ) → Closed n held known
    → IsNonInput n.signals z → IsForced n known z → Agrees n known w → Agrees n held w → IsRound n held w zs v
    → ((Contains held z) ⊎ (Contains held z → ⊥)) → Agrees n (z ∷ known) v
round_adds n held known w zs v z closed gate forced agrees kept round (inl is) =
    more_agree n known z v (run_stays n held known w zs v closed agrees round.runs)
    (run_stays n held held w zs v (λ a there. inl there) kept round.runs z is)
round_adds n held known w zs v z closed gate forced agrees kept round (inr free) =
    elim (round.turns z gate free) [
      | inl switches ↦ after_switch n held known w zs v z closed forced agrees round.runs switches
      | inr r ↦
          (let there = run_stays n held known w r.front r.at closed agrees r.first in
          let is = at_rest n known r.at z gate forced there r.rests in
          run_stays n held (z ∷ known) r.at r.back v (more_closed n held known z closed forced)
          (more_agree n known z r.at there is) r.second)
    ]

neither : (y z : ℕ) (ys : List ℕ) → (z ≡ y → ⊥) → (Contains ys z → ⊥) → ((z ≡ y) ⊎ Contains ys z) → ⊥
neither y z ys other missing (inl same) = other same
neither y z ys other missing (inr there) = missing there

-- a signal is in the list or not
pub there_or_not : (zs : List ℕ) (z : ℕ) → (Contains zs z) ⊎ (Contains zs z → ⊥)
there_or_not [] z = inr (λ h. omega (arith, h.1))
there_or_not (y ∷ ys) z = elim (cases_eq z y) [
  | inl same ↦ inl (0, omega arith, sym same)
  | inr other ↦ elim (there_or_not ys z) [
    | inl there ↦ inl (tail_there y z ys there)
    | inr missing ↦ inr (λ h. neither y z ys other missing (there_cases y z ys h))
  ]
]

rounds_end : (n : Netlist) (held known order : List ℕ) (w v : ℕ) → Closed n held known
    → SettlesBy IsForced n known order → Agrees n known w → Agrees n held w → Rounds n held (length order) w v
    → IsAtStart n v
rounds_end n held known [] w v closed settles agrees kept rounds =
    λ a small. subst (λ (x : ℕ). Agrees n known x) rounds agrees a (settles a small)
rounds_end n held known (z ∷ order) w v closed settles agrees kept rounds =
    let u = rounds.0 in
    rounds_end n held (z ∷ known) order u v (more_closed n held known z closed settles.1) settles.2
    (round_adds n held known w rounds.1 u z closed settles.0 settles.1 agrees kept rounds.2 (there_or_not held z))
    (run_stays n held held w rounds.1 u (λ a there. inl there) kept rounds.2.runs) rounds.3

pub rounds_settle : (n : Netlist) (held order : List ℕ) (w v : ℕ) → Settles n held order
    → Agrees n held w → Rounds n held (length order) w v → IsAtStart n v
rounds_settle n held order w v settles agrees rounds =
    rounds_end n held held order w v (λ a there. inl there) settles agrees agrees rounds

-- ---- rest
rest_end : (n : Netlist) (held known order : List ℕ) (w : ℕ) → SettlesBy IsForced n known order → Agrees n known w
    → Agrees n held w → ((z : ℕ) → (Contains held z → ⊥) → IsExcited n w z → ⊥) → IsAtStart n w
rest_end n held known [] w settles agrees kept rests = λ a small. agrees a (settles a small)
rest_end n held known (z ∷ order) w settles agrees kept rests =
    rest_end n held (z ∷ known) order w settles.2 (more_agree n known z w agrees (elim (there_or_not held z) [
      | inl is ↦ kept z is
      | inr free ↦ at_rest n known w z settles.0 settles.1 agrees (rests z free)
    ])) kept rests

pub rest_is_at_start : (n : Netlist) (held order : List ℕ) (w : ℕ) → Settles n held order → Agrees n held w
    → ((z : ℕ) → (Contains held z → ⊥) → IsExcited n w z → ⊥) → IsAtStart n w
rest_is_at_start n held order w settles agrees rests = rest_end n held held order w settles agrees agrees rests

-- ---- at the start
-- a known signal isn't excited where all known ones agree; all signals come to be known
stays_end : (n : Netlist) (held known order : List ℕ) (w z : ℕ) → Closed n held known
    → SettlesBy IsForced n known order → Agrees n known w → IsAtStart n w → z < length n.signals
    → (Contains held z → ⊥) → IsExcited n w z → ⊥
stays_end n held known [] w z closed settles agrees at small free excited = elim (closed z (settles z small)) [
  | inl kept ↦ free kept
  | inr forced ↦ not_excited n known w z agrees (settles z small) forced excited
]
stays_end n held known (y ∷ order) w z closed settles agrees at small free excited =
    stays_end n held (y ∷ known) order w z (more_closed n held known y closed settles.1) settles.2
    (more_agree n known y w agrees (at y (slice_get_within n.signals y settles.0.0 settles.0.1))) at small free excited

pub start_stays : (n : Netlist) (held order : List ℕ) (w z : ℕ) → Settles n held order
    → Agrees n held w → IsAtStart n w → (Contains held z → ⊥) → IsExcited n w z → ⊥
start_stays n held order w z settles agrees at free excited =
    stays_end n held held order w z (λ a there. inl there) settles agrees at
    (slice_get_within n.signals z excited.gate.0 excited.gate.1) free excited

-- ---- the start is near
near_end : (n : Netlist) (held known order : List ℕ) (w : ℕ) → Closed n held known → SettlesBy IsForced n known order
    → Agrees n known w → Agrees n held w
    → (zs : List ℕ) × (length zs ≤ length order) × (v : ℕ) × Runs n held w zs v × IsAtStart n v
near_end n held known [] w closed settles agrees kept = ([], omega arith, w, refl, λ a small. agrees a (settles a small))
near_end n held known (z ∷ order) w closed settles agrees kept = elim (there_or_not held z) [
  | inl is ↦
      (let r = near_end n held (z ∷ known) order w (more_closed n held known z closed settles.1) settles.2
      (more_agree n known z w agrees (kept z is)) kept in
      (r.0, omega (arith, r.1), r.2, r.3, r.4))
  | inr free ↦ elim (cases_Bool (beq (bit w z) (bit n.start z))) [
    | inl same ↦
        (let r = near_end n held (z ∷ known) order w (more_closed n held known z closed settles.1) settles.2
        (more_agree n known z w agrees (beq-true (bit w z) (bit n.start z) same)) kept in
        (r.0, omega (arith, r.1), r.2, r.3, r.4))
    | inr other ↦
        (let differs : gate_value n z w ≢ bit w z =
        λ is. beq-not (bit w z) (bit n.start z) other (sym is ∙ settles.1 w agrees) in
        let switch : Switches n held w z (flip w z) =
        record { free = free; excited = record { gate = settles.0; differs = differs }; new_values = refl } in
        let r = near_end n held (z ∷ known) order (flip w z) (more_closed n held known z closed settles.1) settles.2
        (more_agree n known z (flip w z) (switch_stays n held known w z (flip w z) closed agrees switch)
        (at_switch n held known w z (flip w z) settles.1 agrees switch))
        (switch_stays n held held w z (flip w z) (λ a there. inl there) kept switch) in
        (z ∷ r.0, omega (arith, r.1), r.2, (flip w z, switch, r.3), r.4))
  ]
]
  where
    beq-not : (a b : Bool) → beq a b ≡ false → a ≡ b → ⊥
    beq-not true true h e = true≢false h
    beq-not false false h e = true≢false h
    beq-not true false h e = true≢false e
    beq-not false true h e = true≢false (sym e)

pub start_is_near : (n : Netlist) (held order : List ℕ) (w : ℕ) → Settles n held order → Agrees n held w
    → (zs : List ℕ) × (length zs ≤ length order) × (v : ℕ) × Runs n held w zs v × IsAtStart n v
start_is_near n held order w settles agrees = near_end n held held order w (λ a there. inl there) settles agrees agrees
