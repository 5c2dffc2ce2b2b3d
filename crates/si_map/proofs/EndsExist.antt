-- Mapping has an end: where each signal fits a cell, or where one doesn't and no divisor serves.
use Rattle.std.proofs.Common.{◌<◌, ◌⊎◌, codes, inl, inr}
use Rattle.si_base.specs.Codes.{IsCoded}
use Rattle.si_base.specs.Proper.{IsProper, HasNoConflict}
use Rattle.si_cell.specs.Library.{Library}
use Rattle.si_divisor.specs.DivisorLaws.{DivisorsExist}
use Rattle.si_divisor.specs.Laws.{PartitionsExist}
use Rattle.si_insert.specs.declared.lineage.TraceStep.{TraceStep}
use Rattle.si_insert.specs.Lineage.{Current}
use Rattle.si_insert.proofs.InsertionsExist.{next_of}
use Rattle.si_insert.proofs.LineageTraces.{some_end}
use Rattle.si_map.specs.Best.{Choice, IsBest}
use Rattle.si_map.specs.Laws.{MappingEnds}
use Rattle.si_map.specs.Trace.{InsertsDivisor}
use Rattle.si_map.proofs.BestExists.{best_or_none}
use Rattle.si_map.proofs.EndLemmas.{all_or_first}
use Rattle.si_map.proofs.TraceLemmas.{IsEnd, mapped_free, weight, lighter_next}

-- what holds of each graph that mapping comes to
record IsSound (v : Current) : Type 0 where
  coded : IsCoded v.coded
  proper : IsProper v.coded.graph
  free : HasNoConflict v.coded

module _ (library : Library) where
  -- ---- one insertion
  abbrev Lightens : Current → Type 0
  Lightens v = (p : TraceStep) × (u : Current) × InsertsDivisor library v p u × IsSound u
      × (weight library u < weight library v)

  lighter : (v : Current) (x : Choice) → IsSound v → IsBest v.coded library x → Lightens v
  lighter v x sound best =
      let (p, u, next) = next_of v (codes "map") x.classes sound.coded best.holds.accepted in
      let maps : InsertsDivisor library v p u = record {
        choice = x;
        best = best;
        classes_are = next.classes_are;
        name = next.name;
        inserts = next.inserts;
      } in
      let free = mapped_free library v p u sound.coded maps in (
        p,
        u,
        maps,
        record { coded = next.coded; proper = next.proper; free = free },
        lighter_next library v p u sound.coded maps,
      )

  -- ---- the end
  module _ (divisors_exist : DivisorsExist) (partitions_exist : PartitionsExist) where
    end_or_lighter : (v : Current) → IsSound v → IsEnd library v ⊎ Lightens v
    end_or_lighter v sound = elim (all_or_first v.coded library) [
      | inl all ↦ inl (inl all)
      | inr (z, first) ↦
          elim (best_or_none v.coded library divisors_exist partitions_exist sound.coded sound.proper sound.free) [
            | inl (x, best) ↦ inr (lighter v x sound best)
            | inr none ↦ inl (inr (z, record { first = first; none = none }))
          ]
    ]

pub mapping_ends : DivisorsExist → PartitionsExist → MappingEnds
mapping_ends divisors_exist partitions_exist library v coded proper free =
    let sound : IsSound v = record { coded = coded; proper = proper; free = free } in
    let next = end_or_lighter library divisors_exist partitions_exist in
    let (trace, w, leads, end) = some_end (InsertsDivisor library) (IsEnd library) IsSound (weight library) next v
    sound in
    elim end [
      | inl all ↦ (trace, w, inl (record { goes = leads; done = all }))
      | inr (z, stuck) ↦ (trace, w, inr (z, record { goes = leads; stuck = stuck }))
    ]
