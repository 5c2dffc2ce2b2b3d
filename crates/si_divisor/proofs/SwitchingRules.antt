-- The closing rules are what acceptance asks.
use Rattle.std.proofs.Common.{◌≡◌, ℕ, ◌<◌, ◌↔◌, ◌⊎◌, Bool, true, false, not, List, refl, sym, ap, subst, ◌∙◌, inl, inr}
use Rattle.std.proofs.lemmas.Bool.{true≢false}
use Rattle.std.proofs.Math.Bool.{not-not}
use Rattle.si_base.specs.declared.ids.Event.{Event}
use Rattle.si_base.specs.Graph.{StateGraph, Step, IsGraph}
use Rattle.si_base.specs.Proper.{Loss}
use Rattle.si_base.proofs.StepCodes.{step_within}
use Rattle.si_base.proofs.Booleans.{at_each, not_itself}
use Rattle.si_base.specs.Sets.{IsIn}
use Rattle.si_insert.specs.declared.partition.Class.{Class}
use Rattle.si_insert.specs.declared.partition.Class.TheVariants.{Low, Rising, High, Falling}
use Rattle.si_insert.specs.Partition.{class_of, may_lead}
use Rattle.si_insert.specs.Insertion.{waits, has_copy}
use Rattle.si_insert.specs.Accepted.{Delay}
use Rattle.si_insert.specs.Loops.Tests.{InputWaits, WaitsAfter}
use Rattle.si_divisor.specs.Switching.{Switches}
use Rattle.si_divisor.specs.Laws.{to_one, AreClassed, Passes, MeetRules, RulesAreAcceptance}
use Rattle.si_insert.proofs.PairWaiting.{waiting, is_or_not, waits_at, waits_if, goes_elsewhere, goes_within}
use Rattle.si_insert.proofs.DiamondLosses.{lost_after, diamond_of}
use Rattle.si_divisor.proofs.ClassCases.{target_of_waiting, copy_has, crosses, comes}

-- the set where arcs wait at the value v
abbrev pub IsSetAt : StateGraph → List Class → Bool → List Bool → Type 0
IsSetAt g classes v set = (s : ℕ) → s < g.states → IsIn set s ↔ (class_of classes s ≡ waiting v)

abbrev pub HasTargets : StateGraph → List Class → (ℕ → Bool) → Type 0
HasTargets g classes target = (s : ℕ) → s < g.states → target s ≡ to_one (class_of classes s)

-- ---- from acceptance to the rules, in one direction
pub switches_at : (g : StateGraph) (classes : List Class) (target : ℕ → Bool) (v : Bool) (set : List Bool) → IsGraph g
    → IsSetAt g classes v set → HasTargets g classes target → Passes g classes → Switches g target (not v) set
switches_at g classes target v set graph at to p = record {
  entered = λ s e t step low high. (
      let w = step_within g s e t graph step in
      (at t w.2).1 (crosses (class_of classes s) (class_of classes t) v (p.lawful.arcs s e t step) (sym (to s w.0)
      ∙ low ∙ not-not v) (sym (to t w.2) ∙ high)));
  before = λ s e t step in_t high. (
      let w = step_within g s e t graph step in
      let l : may_lead (class_of classes s) (waiting v) ≡ true =
      subst (λ c. may_lead (class_of classes s) c ≡ true) ((at t w.2).0 in_t) (p.lawful.arcs s e t step) in
      (at s w.0).1 (comes (class_of classes s) v l (sym (to s w.0) ∙ high)));
  inputs = λ s e t step input in_s. (
      let w = step_within g s e t graph step in
      elim (is_or_not (class_of classes t) v) [
        | inl h ↦ (at t w.2).1 h
        | inr h ↦
            absurd (p.inputs (record { s = s; e = e }) (record {
              input = input;
              to = t;
              step = step;
              value = v;
              late =
                  waits_if (class_of classes s) (class_of classes t) v ((at s w.0).0 in_s) h;
            }))
      ]);
  exits = λ s a c t u w d in_u may. (
      let one = step_within g s a t graph d.first in
      let two = step_within g u a w graph d.next in
      let u_is = (at u two.0).0 in_u in
      let goes : waits (class_of classes s) (class_of classes t) v ≡ false = elim may [
        | inl low ↦
            goes_elsewhere (class_of classes s) (class_of classes t) v
            (λ same. not_itself v (sym (sym (to s one.0) ∙ low ∙ not-not v) ∙ ap to_one same ∙ target_of_waiting v))
        | inr both ↦
            goes_within (class_of classes s) (class_of classes t) v ((at s one.0).0 both.0) ((at t one.2).0 both.1)
      ] in
      elim (is_or_not (class_of classes w) v) [
        | inl in_w ↦ (at w two.2).1 in_w
        | inr out ↦ absurd (p.losses (record { s = s; lost = a; by = c })
            (lost_after g classes v s a c t u w d (p.lawful.arcs s c u d.other) u_is out goes))
      ]);
}

-- ---- from the rules to acceptance
pub none_waits : (g : StateGraph) (classes : List Class) (target : ℕ → Bool) (v : Bool) (set : List Bool) → IsGraph g
    → IsSetAt g classes v set → Switches g target (not v) set
    → (d : Delay) (w : InputWaits g classes d) → w.value ≡ v → ⊥
none_waits g classes target v set graph at sw d w same =
    let in' = step_within g d.s d.e w.to graph w.step in
    let late : waits (class_of classes d.s) (class_of classes w.to) v ≡ true =
    subst (λ b. waits (class_of classes d.s) (class_of classes w.to) b ≡ true) same w.late in
    let h = waits_at (class_of classes d.s) (class_of classes w.to) v late in
    h.1 ((at w.to in'.2).0 (sw.inputs d.s d.e w.to w.step w.input ((at d.s in'.0).1 h.0)))

pub none_lost : (g : StateGraph) (classes : List Class) (target : ℕ → Bool) (v : Bool) (set : List Bool) → IsGraph g
    → IsSetAt g classes v set → HasTargets g classes target → Switches g target (not v) set
    → (b : Loss) (w : WaitsAfter g classes b) → w.value ≡ v → ⊥
none_lost g classes target v set graph at to sw b w same =
    let one = step_within g b.s b.lost w.t graph w.first in
    let two = step_within g w.u b.lost w.w graph w.next in
    let S : Class = class_of classes b.s in
    let T : Class = class_of classes w.t in
    let late : waits (class_of classes w.u) (class_of classes w.w) v ≡ true =
    subst (λ k. waits (class_of classes w.u) (class_of classes w.w) k ≡ true) same w.late in
    let goes : waits S T v ≡ false = subst (λ k. waits S T k ≡ false) same w.first_goes in
    let has : has_copy S v ≡ true = subst (λ k. has_copy S k ≡ true) same w.has in
    let h = waits_at (class_of classes w.u) (class_of classes w.w) v late in
    let may : (target b.s ≡ not (not v)) ⊎ (IsIn set b.s × IsIn set w.t) = elim (copy_has S v has) [
      | inl low ↦ inl (to b.s one.0 ∙ low ∙ sym (not-not v))
      | inr in_s ↦ elim (is_or_not T v) [
        | inl in_t ↦ inr ((at b.s one.0).1 in_s, (at w.t one.2).1 in_t)
        | inr out ↦ absurd (true≢false (sym (waits_if S T v in_s out) ∙ goes))
      ]
    ] in
    h.1 ((at w.w two.2).0 (sw.exits b.s b.lost b.by w.t w.u w.w (diamond_of g classes b w) ((at w.u two.0).1 h.0) may))

pub arc_lawful : (g : StateGraph) (classes : List Class) (target : ℕ → Bool) (plus minus : List Bool) → IsGraph g
    → AreClassed g classes target plus minus → MeetRules g classes target plus minus → (s : ℕ) (e : Event) (t : ℕ)
    → Step g s e t
    → may_lead (class_of classes s) (class_of classes t) ≡ true
arc_lawful g classes target plus minus graph a x s e t step =
    cases (class_of classes s) (class_of classes t) refl refl
  where
    in_s : s < g.states
    in_s = (step_within g s e t graph step).0

    in_t : t < g.states
    in_t = (step_within g s e t graph step).2

    to_s : (c : Class) → class_of classes s ≡ c → target s ≡ to_one c
    to_s c p = a.target_is s in_s ∙ ap to_one p

    to_t : (c : Class) → class_of classes t ≡ c → target t ≡ to_one c
    to_t c p = a.target_is t in_t ∙ ap to_one p

    cases : (c d : Class) → class_of classes s ≡ c → class_of classes t ≡ d → may_lead c d ≡ true
    cases Low Low p q = refl
    cases Low Rising p q = refl
    cases Low High p q = let same : High ≡ Rising =
        sym q ∙ (a.plus_is t in_t).0 (x.rising.entered s e t step (to_s Low p) (to_t High q)) in cc
    cases Low Falling p q = let same : Low ≡ Falling =
        sym p ∙ (a.minus_is s in_s).0 (x.falling.before s e t step ((a.minus_is t in_t).1 q) (to_s Low p)) in cc
    cases Rising Low p q = let same : Low ≡ Falling =
        sym q ∙ (a.minus_is t in_t).0 (x.falling.entered s e t step (to_s Rising p) (to_t Low q)) in cc
    cases Rising Rising p q = refl
    cases Rising High p q = refl
    cases Rising Falling p q = refl
    cases High Low p q = let same : Low ≡ Falling =
        sym q ∙ (a.minus_is t in_t).0 (x.falling.entered s e t step (to_s High p) (to_t Low q)) in cc
    cases High Rising p q = let same : High ≡ Rising =
        sym p ∙ (a.plus_is s in_s).0 (x.rising.before s e t step ((a.plus_is t in_t).1 q) (to_s High p)) in cc
    cases High High p q = refl
    cases High Falling p q = refl
    cases Falling Low p q = refl
    cases Falling Rising p q = refl
    cases Falling High p q = let same : High ≡ Rising =
        sym q ∙ (a.plus_is t in_t).0 (x.rising.entered s e t step (to_s Falling p) (to_t High q)) in cc
    cases Falling Falling p q = refl

meets_if_passes : (g : StateGraph) (classes : List Class) (target : ℕ → Bool) (plus minus : List Bool) → IsGraph g
    → AreClassed g classes target plus minus → Passes g classes → MeetRules g classes target plus minus
meets_if_passes g classes target plus minus graph a p = record {
  count = p.lawful.count;
  rises = (p.lawful.rises.0, p.lawful.rises.1, (a.plus_is p.lawful.rises.0 p.lawful.rises.1).1 p.lawful.rises.2);
  falls = (p.lawful.falls.0, p.lawful.falls.1, (a.minus_is p.lawful.falls.0 p.lawful.falls.1).1 p.lawful.falls.2);
  rising = switches_at g classes target false plus graph a.plus_is a.target_is p;
  falling = switches_at g classes target true minus graph a.minus_is a.target_is p;
}

passes_if_meets : (g : StateGraph) (classes : List Class) (target : ℕ → Bool) (plus minus : List Bool) → IsGraph g
    → AreClassed g classes target plus minus → MeetRules g classes target plus minus → Passes g classes
passes_if_meets g classes target plus minus graph a m = record {
  lawful = record {
    count = m.count;
    rises = (m.rises.0, m.rises.1, (a.plus_is m.rises.0 m.rises.1).0 m.rises.2);
    falls = (m.falls.0, m.falls.1, (a.minus_is m.falls.0 m.falls.1).0 m.falls.2);
    arcs = arc_lawful g classes target plus minus graph a m;
  };
  inputs = λ d w. at_each (λ v. w.value ≡ v → ⊥)
      (none_waits g classes target false plus graph a.plus_is m.rising d w)
      (none_waits g classes target true minus graph a.minus_is m.falling d w) w.value refl;
  losses = λ b w. at_each (λ v. w.value ≡ v → ⊥)
      (none_lost g classes target false plus graph a.plus_is a.target_is m.rising b w)
      (none_lost g classes target true minus graph a.minus_is a.target_is m.falling b w) w.value refl;
}

pub rules_are_acceptance : RulesAreAcceptance
rules_are_acceptance g classes target plus minus graph a =
    (meets_if_passes g classes target plus minus graph a, passes_if_meets g classes target plus minus graph a)
