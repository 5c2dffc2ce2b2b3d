-- A proper graph has a best candidate that leaves fewer conflicts than it has, or none leaves fewer.
use Rattle.std.proofs.Common.{◌≡◌, ℕ, ◌<◌, ◌⊎◌, Bool, List, length, Option, Some, None, refl, sym, subst, subst₂, ◌∙◌}
use Rattle.std.proofs.Common.{arith, inl, inr}
use Rattle.si_base.specs.Codes.{CodedGraph, IsCoded}
use Rattle.si_base.specs.Proper.{IsProper}
use Rattle.si_checks.specs.Loops.Searches.{IsFirstOrNone}
use Rattle.si_checks.proofs.SearchDecisions.{Decided, both, less}
use Rattle.si_conflicts.specs.Conflicts.{HasConflicts}
use Rattle.si_conflicts.proofs.ConflictsExist.{some_count}
use Rattle.si_conflicts.proofs.LeftCount.{some_left}
use Rattle.si_candidates.specs.Blocks.{AreBlocks, IsCandidate, block_at}
use Rattle.si_candidates.specs.Parts.{AreClasses}
use Rattle.si_candidates.proofs.BlockDecisions.{disjoint_or_not}
use Rattle.si_candidates.proofs.ClassesDecided.{accepted_classes_or_none}
use Rattle.si_insert.specs.declared.partition.Class.{Class}
use Rattle.si_insert.specs.Accepted.{IsAccepted}
use Rattle.si_insert.proofs.RowSearchLemmas.{first_or_none}
use Rattle.si_resolve.specs.Best.{Choice, IsChoice, choice_place, Improves, NoneImproves}
use Rattle.si_resolve.specs.Loops.Search.{IsFewer}
use Rattle.si_resolve.proofs.OneBest.{one_number}
use Rattle.si_resolve.proofs.SearchSteps.{weight, row, place, lower, one_weight, within, improves, none_improves}

module _ (c : CodedGraph) (blocks : List (List Bool)) (n : ℕ) (is : IsCoded c) (proper : IsProper c.graph) where
  -- ---- one candidate
  -- a choice at the places i and j
  record Chosen (i j : ℕ) (x : Choice) : Type 0 where
    choice : IsChoice c blocks x
    at_i : x.i ≡ i
    at_j : x.j ≡ j

  candidate_or_not : (i j : ℕ) → Decided (IsCandidate blocks i j)
  candidate_or_not i j =
      let order = less i j in
      let within = less j (length blocks) in
      elim (both order (both within (disjoint_or_not (block_at blocks i) (block_at blocks j)))) [
        | inl are ↦ inl (record { order = are.0; within = are.1.0; disjoint = are.1.1 })
        | inr none ↦ inr (λ candidate. none (candidate.order, (candidate.within, candidate.disjoint)))
      ]

  -- classes that are accepted at these places
  abbrev Accepts : ℕ → ℕ → List Class → Type 0
  Accepts i j classes = AreClasses c.graph (block_at blocks i) (block_at blocks j) classes × IsAccepted c.graph classes

  chosen_by : (i j : ℕ) → IsCandidate blocks i j → (classes : List Class) → Accepts i j classes
      → (x : Choice) × Chosen i j x
  chosen_by i j candidate classes (are, accepted) =
      let left = some_left c is classes accepted.lawful in
      let x : Choice = record { i = i; j = j; classes = classes; conflicts = left.0 } in
      let choice : IsChoice c blocks x =
      record { candidate = candidate; are = are; accepted = accepted; leaves = left.1 } in
      (x, record { choice = choice; at_i = refl; at_j = refl })

  accepts_by : (i j : ℕ) (x : Choice) → Chosen i j x → Accepts i j x.classes
  accepts_by i j x chosen =
      let P : ℕ → ℕ → Type 0 = λ a b. AreClasses c.graph (block_at blocks a) (block_at blocks b) x.classes in
      (subst₂ P chosen.at_i chosen.at_j chosen.choice.are, chosen.choice.accepted)

  candidate_by : (i j : ℕ) (x : Choice) → Chosen i j x → IsCandidate blocks i j
  candidate_by i j x chosen = subst₂ (IsCandidate blocks) chosen.at_i chosen.at_j chosen.choice.candidate

  choice_or_none : (i j : ℕ) → Decided ((x : Choice) × Chosen i j x)
  choice_or_none i j = elim (candidate_or_not i j) [
    | inr none ↦ inr (λ (x, chosen). none (candidate_by i j x chosen))
    | inl candidate ↦ (
        let plus = block_at blocks i in
        let minus = block_at blocks j in
        elim (accepted_classes_or_none c plus minus is proper candidate.disjoint) [
          | inl (classes, accepts) ↦ inl (chosen_by i j candidate classes accepts)
          | inr none ↦ inr (λ (x, chosen). none (x.classes, accepts_by i j x chosen))
        ])
  ]

  -- one that leaves fewer conflicts, at the place i of row j
  fewer_or_none : (j i : ℕ) → Decided ((x : Choice) × IsFewer c blocks n x × (x.j ≡ j) × (x.i ≡ i))
  fewer_or_none j i = elim (choice_or_none i j) [
    | inr none ↦ inr (λ (x, fewer, at_j, at_i).
        none (x, record { choice = fewer.choice; at_i = at_i; at_j = at_j }))
    | inl (x, chosen) ↦ elim (less x.conflicts n) [
      | inl fewer ↦ inl (x, record { choice = chosen.choice; fewer = fewer }, chosen.at_j, chosen.at_i)
      | inr not_fewer ↦ inr (λ (y, fewer, at_j, at_i). (
          let same =
          one_number c blocks y x is fewer.choice chosen.choice (at_j ∙ sym chosen.at_j) (at_i ∙ sym chosen.at_i) in
          not_fewer (subst (λ m. m < n) same fewer.fewer)))
    ]
  ]

  width : (j : ℕ) → (m : ℕ) × ((y : Choice) → IsFewer c blocks n y → y.j ≡ j → y.i < m)
  width j = (j, λ y fewer at_j. (let order = fewer.choice.candidate.order in omega (arith, order, at_j)))

  first_fewer : (found : Option Choice) × IsFirstOrNone choice_place (IsFewer c blocks n) found
  first_fewer = first_or_none (IsFewer c blocks n) weight row place n (lower c blocks n) (one_weight c blocks n is)
      fewer_or_none width (length blocks) (within c blocks n)

-- ---- the end of the search
pub best_or_none : (c : CodedGraph) (blocks : List (List Bool)) → IsCoded c → IsProper c.graph → AreBlocks c blocks
    → ((x : Choice) × Improves c x) ⊎ NoneImproves c
best_or_none c blocks is proper are =
    let (n, counted) = some_count c in
    let (found, first) = first_fewer c blocks n is proper in
    at_end found n counted first
  where
    at_end : (found : Option Choice) (n : ℕ) → HasConflicts c n
        → IsFirstOrNone choice_place (IsFewer c blocks n) found → ((x : Choice) × Improves c x) ⊎ NoneImproves c
    at_end None n counted none = inr (none_improves c blocks n are counted none)
    at_end (Some x) n counted first = inl (x, improves c blocks n x are counted first)
