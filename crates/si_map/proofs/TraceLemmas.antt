-- A mapping trace is short, leaves no conflict, and is the only one and a lineage.
use Rattle.std.proofs.Common.{◌≡◌, ℕ, ◌<◌, ◌⊎◌, List, [], ◌∷◌, codes, refl, sym, ap, subst, ◌∙◌, arith, inl, inr}
use Rattle.si_base.specs.Codes.{CodedGraph, IsCoded}
use Rattle.si_base.specs.Proper.{HasNoConflict}
use Rattle.si_cell.specs.Library.{Library}
use Rattle.si_circuit.specs.Cells.{AllFit, IsFirstUnfit}
use Rattle.si_conflicts.specs.Left.{LeavesConflicts}
use Rattle.si_insert.specs.declared.partition.Class.{Class}
use Rattle.si_insert.specs.declared.lineage.TraceStep.{TraceStep}
use Rattle.si_insert.specs.Insertion.{new_signal, coded}
use Rattle.si_insert.specs.Lineage.{Current, Inserts}
use Rattle.si_insert.proofs.LineageTraces as traces
use Rattle.si_match.specs.Weight.{weight_of}
use Rattle.si_map.specs.Best.{Choice, IsUnfit, LeavesWeight}
use Rattle.si_map.specs.Laws.{BestIsUnique, TracesAreShort, TracesLeaveNoConflict, FittedIsMapped, MappedIsUnique}
use Rattle.si_map.specs.Laws.{UnmappedIsUnique, EndsExclude, TracesAreLineages, TracesImplement}
use Rattle.si_map.specs.Trace.{InsertsDivisor, IsMappingTrace, IsStuck}
use Rattle.si_map.proofs.EndLemmas.{first_is_one, not_both}
use Rattle.si_map.proofs.SearchConflicts.{none_left}
use Rattle.si_map.proofs.BestWeight.{weight_is_one}

-- ---- one insertion
-- an insertion whose partition leaves no conflict makes a graph without conflicts
pub free_next : (v : Current) (p : TraceStep) (u : Current) → IsCoded v.coded → Inserts v p u
    → LeavesConflicts v.coded p.partition 0 → HasNoConflict u.coded
free_next v p u is ins free =
    let none = none_left v.coded p.partition (new_signal p.name) ins.copies ins.graph is ins.accepted.lawful free
    ins.insertion in
    let P : Current → Type 0 = λ x. HasNoConflict x.coded in subst P (sym ins.makes) none

unfit_not_all : (c : CodedGraph) (library : Library) (z : ℕ) → IsUnfit c library z → AllFit c library → ⊥
unfit_not_all c library z unfit all = not_both _ (all z unfit.driven) unfit.unfit

-- where mapping ends
abbrev pub IsEnd : Library → Current → Type 0
IsEnd library v = AllFit v.coded library ⊎ ((z : ℕ) × IsStuck library v z)

module _ (library : Library) where
  inserts_of : (v : Current) (p : TraceStep) (u : Current) → InsertsDivisor library v p u → Inserts v p u
  inserts_of v p u m = m.inserts

  pub mapped_free : (v : Current) (p : TraceStep) (u : Current) → IsCoded v.coded → InsertsDivisor library v p u
      → HasNoConflict u.coded
  mapped_free v p u is m =
      let P : List Class → Type 0 = λ classes. LeavesConflicts v.coded classes 0 in
      free_next v p u is m.inserts (subst P (sym m.classes_are) m.best.holds.free)

  end_stops : (v : Current) (p : TraceStep) (u : Current) → IsEnd library v → InsertsDivisor library v p u → ⊥
  end_stops v p u (inl all) m = unfit_not_all v.coded library m.choice.signal m.best.holds.unfit all
  end_stops v p u (inr (z, stuck)) m = stuck.none m.choice m.best.holds

  weight_next : (v : Current) (p : TraceStep) (u : Current) → (m : InsertsDivisor library v p u)
      → weight_of u.coded library ≡ m.choice.weight
  weight_next v p u m =
      let ins = m.inserts in
      let P : List Class → Type 0 = λ classes. LeavesWeight v.coded library classes m.choice.weight in
      let leaves = subst P (sym m.classes_are) m.best.holds.leaves in
      let Q : Current → Type 0 = λ x. weight_of (coded v.coded ins.copies ins.graph) library
      ≡ weight_of x.coded library in
      let here : LeavesWeight v.coded library p.partition (weight_of u.coded library) =
      record {
        new = new_signal p.name;
        copies = ins.copies;
        graph = ins.graph;
        insertion = ins.insertion;
        weighs = subst Q (sym ins.makes) refl;
      } in
      weight_is_one v.coded library p.partition (weight_of u.coded library) m.choice.weight here leaves

  abbrev pub weight : Current → ℕ
  weight v = weight_of v.coded library

  pub lighter_next : (v : Current) (p : TraceStep) (u : Current) → IsCoded v.coded → InsertsDivisor library v p u
      → weight u < weight v
  lighter_next v p u is m = omega (arith, weight_next v p u m, m.best.holds.lower)

-- ---- traces
pub traces_leave_no_conflict : TracesLeaveNoConflict
traces_leave_no_conflict library v trace w is none leads =
    let Kept : Current → Type 0 = λ x. IsCoded x.coded × HasNoConflict x.coded in
    (traces.kept_along (InsertsDivisor library) Kept
    (λ x p u kept m. (traces.coded_next x p u kept.0 m.inserts, mapped_free library x p u kept.0 m))
    v trace w (is, none) leads).1

pub fitted_is_mapped : FittedIsMapped
fitted_is_mapped library v [] w all leads = refl
fitted_is_mapped library v (p ∷ trace) w all (u, m, rest) = absurd (end_stops library v p u (inl all) m)

pub traces_are_short : TracesAreShort
traces_are_short library =
    traces.trace_is_short (InsertsDivisor library) (weight library) (lighter_next library) (inserts_of library)

module _ (one_best : BestIsUnique) where
  one_maps : (library : Library) (v : Current) (p q : TraceStep) (u w : Current) → IsCoded v.coded
      → InsertsDivisor library v p u
      → InsertsDivisor library v q w → (p ≡ q) × (u ≡ w)
  one_maps library v p q u w is a b =
      let choice = one_best v.coded library a.choice b.choice is a.best b.best in
      let classes : p.partition ≡ q.partition =
      a.classes_are ∙ ap (λ (x : Choice). x.classes) choice ∙ sym b.classes_are in
      traces.one_step v (codes "map") p q u w classes a.name b.name a.inserts b.inserts

  one_trace : (library : Library) (v : Current) (xs ys : List TraceStep) (w u : Current) → IsCoded v.coded
      → IsMappingTrace library v xs w → IsMappingTrace library v ys u → IsEnd library w → IsEnd library u → (xs ≡ ys)
      × (w ≡ u)
  one_trace library = traces.one_trace (InsertsDivisor library) (IsEnd library) (end_stops library) (inserts_of library)
      (one_maps library)

  pub mapped_is_unique : MappedIsUnique
  mapped_is_unique library v xs ys w u is a b =
      one_trace library v xs ys w u is a.goes b.goes (inl a.done) (inl b.done)

  pub unmapped_is_unique : UnmappedIsUnique
  unmapped_is_unique library v xs ys w u y z is a b =
      let same = one_trace library v xs ys w u is a.goes b.goes (inr (y, a.stuck)) (inr (z, b.stuck)) in
      let P : Current → Type 0 = λ k. IsFirstUnfit k.coded library z in
      (same.0, same.1, first_is_one w.coded library y z a.stuck.first (subst P (sym same.1) b.stuck.first))

  pub ends_exclude : EndsExclude
  ends_exclude library v xs ys w u z is a b =
      let same = one_trace library v xs ys w u is a.goes b.goes (inl a.done) (inr (z, b.stuck)) in
      let P : Current → Type 0 = λ k. IsFirstUnfit k.coded library z in
      let first = subst P (sym same.1) b.stuck.first in
      unfit_not_all w.coded library z (record { driven = first.driven; unfit = first.unfit }) a.done

-- ---- lineages
pub traces_are_lineages : TracesAreLineages
traces_are_lineages library = traces.traces_are_lineages (InsertsDivisor library) (inserts_of library)

pub traces_implement : TracesImplement
traces_implement library = traces.traces_implement (InsertsDivisor library) (inserts_of library)
