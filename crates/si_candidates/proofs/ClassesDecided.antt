-- Two disjoint blocks have accepted classes, or they have none.
use Rattle.std.proofs.Common.{◌≡◌, ℕ, ◌<◌, ◌≤◌, Bool, List, length, subst, arith, inl, inr}
use Rattle.std.proofs.lemmas.Bool.{cases_lt}
use Rattle.si_base.specs.Graph.{StateGraph}
use Rattle.si_base.specs.Codes.{CodedGraph, IsCoded}
use Rattle.si_base.specs.Limits.{max_signals, max_states}
use Rattle.si_base.specs.Proper.{IsProper}
use Rattle.si_base.specs.Sets.{IsIn, IsDisjoint}
use Rattle.si_regions.proofs.SetsExist.{some_set}
use Rattle.si_checks.proofs.SearchDecisions.{Decided, both, less}
use Rattle.si_insert.specs.declared.partition.Class.{Class}
use Rattle.si_insert.specs.Partition.{IsLawful}
use Rattle.si_insert.specs.Accepted.{IsAccepted, copy_count}
use Rattle.si_candidates.specs.Parts.{AreClasses}
use Rattle.si_candidates.proofs.ClassesExist.{first_of, classes_or_torn_within}
use Rattle.si_candidates.proofs.BlockDecisions.{member, may_switch_or_not}
use Rattle.si_candidates.proofs.PartLaws.{torn_have_none, classes_lawful, classes_unique}
use Rattle.si_candidates.proofs.BlockingLemmas.{accepted_by_blocks}

-- the set has a state of the graph
abbrev Occurs : StateGraph → List Bool → Type 0
Occurs g set = (s : ℕ) × (s < g.states) × IsIn set s

occurs_or_not : (g : StateGraph) (set : List Bool) → Decided (Occurs g set)
occurs_or_not g set =
    let P : ℕ → Type 0 = λ s. (s < g.states) × IsIn set s in
    let found = some_set g P (λ s. both (less s g.states) (member set s)) (λ s is. is.0) in
    elim (first_of P found.0 found.1) [
      | inl (s, is) ↦ inl (s, is.0, is.1)
      | inr none ↦ inr (λ (s, within, here). none (s, (within, here)))
    ]

at_most : (n m : ℕ) → Decided (n ≤ m)
at_most n m = elim (cases_lt m n) [
  | inl more ↦ inr (λ few. absurd (omega arith))
  | inr few ↦ inl few
]

module _ (c : CodedGraph) (plus minus : List Bool) (coded : IsCoded c) (proper : IsProper c.graph) where
  accepted_or_not : (classes : List Class) → IsLawful c.graph classes → AreClasses c.graph plus minus classes
      → Decided (IsAccepted c.graph classes)
  accepted_or_not classes lawful are =
      let by_blocks = accepted_by_blocks c plus minus classes coded proper lawful are in
      let room =
      both (at_most (copy_count classes) max_states) (less (length c.graph.signals) max_signals) in
      let switches = both (may_switch_or_not c.graph plus) (may_switch_or_not c.graph minus) in
      elim (both switches room) [
        | inl is ↦ inl (by_blocks.1 (is.0.0, is.0.1, is.1.0, is.1.1))
        | inr none ↦ inr (λ accepted. (
            let is = by_blocks.0 accepted in
            none ((is.0, is.1), (is.2, is.3))))
      ]

  -- classes that are accepted
  abbrev pub Accepts : List Class → Type 0
  Accepts classes = AreClasses c.graph plus minus classes × IsAccepted c.graph classes

  rises_within : (classes : List Class) → Accepts classes → Occurs c.graph plus
  rises_within classes is =
      let rises = is.1.lawful.rises in
      (rises.0, rises.1, (is.0.rising rises.0 rises.1).0 rises.2)

  falls_within : (classes : List Class) → Accepts classes → Occurs c.graph minus
  falls_within classes is =
      let falls = is.1.lawful.falls in
      (falls.0, falls.1, (is.0.falling falls.0 falls.1).0 falls.2)

  module _ (rises : Occurs c.graph plus) (falls : Occurs c.graph minus) where
    of_classes : (classes : List Class) → AreClasses c.graph plus minus classes
        → Decided ((found : List Class) × Accepts found)
    of_classes classes are =
        let lawful =
        classes_lawful c.graph plus minus classes rises.0 falls.0 coded.graph_is are rises.2 rises.1 falls.2 falls.1 in
        elim (accepted_or_not classes lawful are) [
          | inl accepted ↦ inl (classes, (are, accepted))
          | inr none ↦ inr (λ (found, is). (
              let same : found ≡ classes =
              classes_unique c.graph plus minus found classes rises.0 falls.0 coded.graph_is coded.connected
              rises.2 rises.1 falls.2 falls.1 is.0 are in
              none (subst (IsAccepted c.graph) same is.1)))
        ]

    of_parts : IsDisjoint plus minus → Decided ((found : List Class) × Accepts found)
    of_parts disjoint =
        let (r, r_in, in_plus) = rises in
        elim (classes_or_torn_within c.graph plus minus r coded.graph_is coded.connected disjoint in_plus r_in) [
          | inl (classes, are) ↦ of_classes classes are
          | inr (s, torn) ↦ inr (λ (found, is). torn_have_none c.graph plus minus found s is.0 torn)
        ]

  pub accepted_classes_or_none : IsDisjoint plus minus → Decided ((found : List Class) × Accepts found)
  accepted_classes_or_none disjoint =
      elim (both (occurs_or_not c.graph plus) (occurs_or_not c.graph minus)) [
        | inl occur ↦ of_parts occur.0 occur.1 disjoint
        | inr none ↦ inr (λ (found, is). none (rises_within found is, falls_within found is))
      ]
