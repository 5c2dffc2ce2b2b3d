-- Resolving has an end: at a graph without conflicts, or at one that no candidate betters.
use Rattle.std.proofs.Common.{ℕ, zero, suc, ◌<◌, ◌⊎◌, codes, refl, arith, inl, inr}
use Rattle.si_base.specs.Codes.{CodedGraph, IsCoded}
use Rattle.si_base.specs.Order.{IsFirst}
use Rattle.si_base.specs.Proper.{IsConflict, IsProper, pair_place}
use Rattle.si_conflicts.specs.Conflicts.{HasConflicts}
use Rattle.si_conflicts.proofs.ConflictsExist.{some_count}
use Rattle.si_conflicts.proofs.OneConflictList.{first_is_first, none_is_none}
use Rattle.si_candidates.specs.Laws.{BlocksExist}
use Rattle.si_insert.specs.declared.lineage.TraceStep.{TraceStep}
use Rattle.si_insert.specs.Lineage.{Current}
use Rattle.si_insert.proofs.InsertionsExist.{next_of}
use Rattle.si_insert.proofs.LineageTraces.{some_end}
use Rattle.si_resolve.specs.Best.{Choice, Improves, NoneImproves, IsStuck}
use Rattle.si_resolve.specs.Laws.{ResolvingEnds}
use Rattle.si_resolve.specs.Trace.{InsertsCandidate}
use Rattle.si_resolve.proofs.BestExists.{best_or_none}
use Rattle.si_resolve.proofs.OneBest.{none_improves_is_stuck}
use Rattle.si_resolve.proofs.TraceLemmas.{IsEnd, conflicts_of, fewer_next}

-- what holds of each graph that resolving comes to
record IsSound (v : Current) : Type 0 where
  coded : IsCoded v.coded
  proper : IsProper v.coded.graph

-- ---- one insertion
abbrev Betters : Current → Type 0
Betters v = (p : TraceStep) × (u : Current) × InsertsCandidate v p u × IsSound u × (conflicts_of u < conflicts_of v)

better : (v : Current) (x : Choice) → IsSound v → Improves v.coded x → Betters v
better v x sound improves =
    let (p, u, next) = next_of v (codes "csc") x.classes sound.coded improves.best.first.holds.accepted in
    let resolves : InsertsCandidate v p u = record {
      choice = x;
      improves = improves;
      classes_are = next.classes_are;
      name = next.name;
      inserts = next.inserts;
    } in
    (p, u, resolves, record { coded = next.coded; proper = next.proper }, fewer_next v p u sound.coded resolves)

-- ---- the end
first_conflict : (c : CodedGraph) (n : ℕ) → HasConflicts c n → 0 < n
    → (pair : ℕ × ℕ) × IsFirst pair_place (IsConflict c) pair
first_conflict c n counted some =
    let first = first_is_first c counted.pairs counted.are (omega (arith, counted.count, some)) in
    (first.0, first.2)

ends_at : (v : Current) (n : ℕ) → HasConflicts v.coded n → NoneImproves v.coded → IsEnd v
ends_at v zero counted none = inl ((none_is_none v.coded 0 counted).1 refl)
ends_at v (suc n) counted none =
    let (pair, first) = first_conflict v.coded (suc n) counted (omega arith) in
    let stuck : IsStuck v.coded pair = record {
      conflict = first;
      no_better = λ x k best also. none_improves_is_stuck v.coded x k none best also;
    } in
    inr (pair, stuck)

module _ (some_blocks : BlocksExist) where
  end_or_better : (v : Current) → IsSound v → IsEnd v ⊎ Betters v
  end_or_better v sound =
      let (blocks, are) = some_blocks v.coded sound.coded in
      elim (best_or_none v.coded blocks sound.coded sound.proper are) [
        | inl (x, improves) ↦ inr (better v x sound improves)
        | inr none ↦ inl (ends_at v (conflicts_of v) (some_count v.coded).1 none)
      ]

  pub resolving_ends : ResolvingEnds
  resolving_ends v coded proper =
      let (trace, w, leads, end) =
      some_end InsertsCandidate IsEnd IsSound conflicts_of end_or_better v
      (record { coded = coded; proper = proper }) in
      elim end [
        | inl none ↦ (trace, w, inl (record { goes = leads; done = none }))
        | inr (pair, stuck) ↦ (trace, w, inr (pair, record { goes = leads; stuck = stuck }))
      ]
