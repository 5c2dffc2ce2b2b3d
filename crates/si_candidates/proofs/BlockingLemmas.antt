-- Acceptance looks at the Rising states alone and at the Falling states alone.
use Rattle.std.proofs.Common.{◌≡◌, ℕ, ◌<◌, ◌≤◌, ◌↔◌, Bool, true, false, List, length, sym, ◌∙◌, inl, inr}
use Rattle.std.proofs.lemmas.Bool.{true≢false}
use Rattle.si_base.specs.Graph.{StateGraph, IsGraph}
use Rattle.si_base.specs.Limits.{max_signals, max_states}
use Rattle.si_base.specs.Codes.{CodedGraph, IsCoded}
use Rattle.si_base.specs.Proper.{IsProper, Loss}
use Rattle.si_base.proofs.RightGateLemmas.{step_within}
use Rattle.si_base.specs.Sets.{IsIn}
use Rattle.si_base.proofs.Booleans.{at_each}
use Rattle.si_insert.specs.declared.partition.Class.{Class}
use Rattle.si_insert.specs.declared.partition.Class.TheVariants.{Rising, Falling}
use Rattle.si_insert.specs.Partition.{class_of, IsLawful}
use Rattle.si_insert.specs.Insertion.{waits}
use Rattle.si_insert.specs.Accepted.{IsAccepted, copy_count, Delay}
use Rattle.si_insert.specs.Loops.Tests.{InputWaits, WaitsAfter}
use Rattle.si_insert.proofs.PairWaiting.{waiting, is_or_not, waits_at, waits_if, goes_elsewhere, goes_within}
use Rattle.si_insert.proofs.DiamondLosses.{lost_after, diamond_of}
use Rattle.si_insert.proofs.AcceptedByTests.{accepts_at_tests}
use Rattle.si_candidates.specs.Parts.{AreClasses}
use Rattle.si_candidates.specs.Blocking.{IsClosedUnderInputs, KeepsExits, MaySwitch}

-- the states of the class where an arc waits at the value
abbrev pub Waiting : List Class → Bool → ℕ → Type 0
Waiting classes b s = class_of classes s ≡ waiting b

-- ---- inputs
closed_at : (g : StateGraph) (classes : List Class) (b : Bool) → ((d : Delay) → InputWaits g classes d → ⊥)
    → IsClosedUnderInputs g (Waiting classes b)
closed_at g classes b none s e t input step from = elim (is_or_not (class_of classes t) b) [
  | inl h ↦ h
  | inr other ↦ absurd (none (record { s = s; e = e })
      (record {
        input = input;
        to = t;
        step = step;
        value = b;
        late = waits_if (class_of classes s)
            (class_of classes t) b from other;
      }))
]

none_waits : (g : StateGraph) (classes : List Class) → ((b : Bool) → IsClosedUnderInputs g (Waiting classes b))
    → (d : Delay) → InputWaits g classes d → ⊥
none_waits g classes closed d w =
    let h = waits_at (class_of classes d.s) (class_of classes w.to) w.value w.late in
    h.1 (closed w.value d.s d.e w.to w.input w.step h.0)

-- ---- losses
exits_at : (g : StateGraph) (classes : List Class) (b : Bool) → IsLawful g classes
    → ((l : Loss) → WaitsAfter g classes l → ⊥) → KeepsExits g (Waiting classes b)
exits_at g classes b lawful none s lost by t u w d in_u out_w = elim (is_or_not (class_of classes s) b) [
  | inl in_s ↦ (
    in_s,
    λ in_t. breach (goes_within (class_of classes s) (class_of classes t) b in_s in_t),
  )
  | inr out_s ↦ absurd (breach (goes_elsewhere (class_of classes s) (class_of classes t) b out_s))
]
  where
    breach : waits (class_of classes s) (class_of classes t) b ≡ false → ⊥
    breach goes = none (record { s = s; lost = lost; by = by })
        (lost_after g classes b s lost by t u w d (lawful.arcs s by u d.other) in_u out_w goes)

none_lost : (g : StateGraph) (classes : List Class) → ((b : Bool) → KeepsExits g (Waiting classes b)) → (l : Loss)
    → WaitsAfter g classes l → ⊥
none_lost g classes keeps l w =
    let b = w.value in
    let h = waits_at (class_of classes w.u) (class_of classes w.w) b w.late in
    let k = keeps b l.s l.lost l.by w.t w.u w.w (diamond_of g classes l w) h.0 h.1 in
    true≢false (sym (waits_if (class_of classes l.s) (class_of classes w.t) b k.0 k.1) ∙ w.first_goes)

pub inputs_by_block : (g : StateGraph) (classes : List Class)
    → ((d : Delay) → InputWaits g classes d → ⊥) ↔
    (IsClosedUnderInputs g (λ s. class_of classes s ≡ Rising) × IsClosedUnderInputs g
    (λ s. class_of classes s ≡ Falling))
inputs_by_block g classes = (
  (λ none. (closed_at g classes false none, closed_at g classes true none)),
  (λ both. none_waits g classes (at_each (λ b. IsClosedUnderInputs g (Waiting classes b)) both.0 both.1)),
)

pub losses_by_block : (g : StateGraph) (classes : List Class) → IsLawful g classes
    → ((b : Loss) → WaitsAfter g classes b → ⊥) ↔
    (KeepsExits g (λ s. class_of classes s ≡ Rising) × KeepsExits g (λ s. class_of classes s ≡ Falling))
losses_by_block g classes lawful = (
  (λ none. (exits_at g classes false lawful none, exits_at g classes true lawful none)),
  (λ both. none_lost g classes (at_each (λ b. KeepsExits g (Waiting classes b)) both.0 both.1)),
)

-- ---- of the blocks themselves
pub may_switch_same : (g : StateGraph) (P Q : ℕ → Type 0) → IsGraph g → ((s : ℕ) → s < g.states → P s ↔ Q s)
    → MaySwitch g P → MaySwitch g Q
may_switch_same g P Q graph same m = record {
  inputs = λ s e t input step at.
      (let in' = step_within g s e t graph step in (same t in'.2).0 (m.inputs s e t input step ((same s in'.0).1 at)));
  exits = λ s lost by t u w d at out. (
      let one = step_within g s lost t graph d.first in
      let two = step_within g u lost w graph d.next in
      let k = m.exits s lost by t u w d ((same u two.0).1 at) (λ h. out ((same w two.2).0 h)) in
      ((same s one.0).0 k.0, λ h. k.1 ((same t one.2).1 h)));
}

flip : (P Q : ℕ → Type 0) (n : ℕ) → ((s : ℕ) → s < n → P s ↔ Q s) → (s : ℕ) → s < n → Q s ↔ P s
flip P Q n same s h = ((same s h).1, (same s h).0)

pub accepted_by_blocks : (c : CodedGraph) (plus minus : List Bool) (classes : List Class) → IsCoded c
    → IsProper c.graph → IsLawful c.graph classes → AreClasses c.graph plus minus classes
    → IsAccepted c.graph classes ↔ (MaySwitch c.graph (IsIn plus) × MaySwitch c.graph (IsIn minus) ×
    (copy_count classes ≤ max_states) × (length c.graph.signals < max_signals))
accepted_by_blocks c plus minus classes is proper lawful a =
    let g = c.graph in
    let tests = accepts_at_tests c classes is proper lawful in
    let inputs = inputs_by_block g classes in
    let losses = losses_by_block g classes lawful in
    let R : ℕ → Type 0 = λ s. class_of classes s ≡ Rising in
    let F : ℕ → Type 0 = λ s. class_of classes s ≡ Falling in (
      (λ accepted. (let t = tests.0 accepted in
          let i = inputs.0 t.0 in
          let l = losses.0 t.1 in (
            may_switch_same g R (IsIn plus) is.graph_is a.rising (record { inputs = i.0; exits = l.0 }),
            may_switch_same g F (IsIn minus) is.graph_is a.falling (record { inputs = i.1; exits = l.1 }),
            t.2,
            t.3,
          ))),
      (λ m. (let r = may_switch_same g (IsIn plus) R is.graph_is (flip R (IsIn plus) g.states a.rising) m.0 in
          let f = may_switch_same g (IsIn minus) F is.graph_is (flip F (IsIn minus) g.states a.falling) m.1 in
          tests.1 (inputs.1 (r.inputs, f.inputs), losses.1 (r.exits, f.exits), m.2, m.3))),
    )
