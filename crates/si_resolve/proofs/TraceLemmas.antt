-- A resolving trace is short, the only one, and a lineage.
use Rattle.std.proofs.Common.{◌≡◌, ℕ, ◌<◌, ◌⊎◌, List, codes, sym, ap, subst, ◌∙◌, arith, inl, inr}
use Rattle.si_base.specs.Codes.{IsCoded}
use Rattle.si_base.specs.Proper.{HasNoConflict}
use Rattle.si_checks.proofs.UniqueBreaches.{one_conflict}
use Rattle.si_conflicts.specs.Conflicts.{HasConflicts}
use Rattle.si_conflicts.specs.Left.{LeavesConflicts}
use Rattle.si_conflicts.proofs.OneConflictList.{one_count, none_is_none}
use Rattle.si_conflicts.proofs.ConflictsExist.{some_count}
use Rattle.si_conflicts.proofs.LeftCount.{one_left}
use Rattle.si_insert.specs.declared.partition.Class.{Class}
use Rattle.si_insert.specs.declared.lineage.TraceStep.{TraceStep}
use Rattle.si_insert.specs.Insertion.{new_signal, coded}
use Rattle.si_insert.specs.Lineage.{Current, Inserts}
use Rattle.si_insert.proofs.LineageTraces as traces
use Rattle.si_resolve.specs.Best.{Choice, IsStuck}
use Rattle.si_resolve.specs.Laws.{TracesAreShort, ResolvedIsUnique, UnresolvedIsUnique, EndsExclude, TracesAreLineages}
use Rattle.si_resolve.specs.Laws.{TracesImplement}
use Rattle.si_resolve.specs.Trace.{InsertsCandidate, IsResolvingTrace}
use Rattle.si_resolve.proofs.OneBest.{one_best}

-- ---- one insertion
inserts_of : (v : Current) (p : TraceStep) (u : Current) → InsertsCandidate v p u → Inserts v p u
inserts_of v p u r = r.inserts

one_resolves : (v : Current) (p q : TraceStep) (u w : Current) → IsCoded v.coded → InsertsCandidate v p u
    → InsertsCandidate v q w
    → (p ≡ q) × (u ≡ w)
one_resolves v p q u w is a b =
    let choice = one_best v.coded a.choice b.choice is a.improves.best b.improves.best in
    let classes : p.partition ≡ q.partition =
    a.classes_are ∙ ap (λ (x : Choice). x.classes) choice ∙ sym b.classes_are in
    traces.one_step v (codes "csc") p q u w classes a.name b.name a.inserts b.inserts

pub count_next : (v : Current) (p : TraceStep) (u : Current) → IsCoded v.coded → (r : InsertsCandidate v p u)
    → HasConflicts u.coded r.choice.conflicts
count_next v p u is r =
    let P : List Class → Type 0 = λ classes. LeavesConflicts v.coded classes r.choice.conflicts in
    let left = subst P (sym r.classes_are) r.improves.best.first.holds.leaves in
    let ins = r.inserts in
    let counted = some_count (coded v.coded ins.copies ins.graph) in
    let here : LeavesConflicts v.coded p.partition counted.0 =
    record {
      new = new_signal p.name;
      copies = ins.copies;
      graph = ins.graph;
      insertion = ins.insertion;
      counted = counted.1;
    } in
    let same = one_left v.coded is p.partition ins.accepted.lawful counted.0 r.choice.conflicts here left in
    let Q : Current → Type 0 = λ x. HasConflicts x.coded r.choice.conflicts in
    subst Q (sym ins.makes) (subst (HasConflicts (coded v.coded ins.copies ins.graph)) same counted.1)

-- ---- the number of conflicts
abbrev pub conflicts_of : Current → ℕ
conflicts_of v = (some_count v.coded).0

pub fewer_next : (v : Current) (p : TraceStep) (u : Current) → IsCoded v.coded → InsertsCandidate v p u
    → conflicts_of u < conflicts_of v
fewer_next v p u is r =
    let before = one_count v.coded r.improves.before (conflicts_of v) r.improves.counted (some_count v.coded).1 in
    let after =
    one_count u.coded r.choice.conflicts (conflicts_of u) (count_next v p u is r) (some_count u.coded).1 in
    omega (arith, before, after, r.improves.fewer)

pub traces_are_short : TracesAreShort
traces_are_short v trace w n is leads counted =
    let short = traces.trace_is_short InsertsCandidate conflicts_of fewer_next inserts_of v trace w is leads in
    let before = one_count v.coded n (conflicts_of v) counted (some_count v.coded).1 in
    (conflicts_of w, (some_count w.coded).1, omega (arith, short, before))

-- ---- where resolving ends
abbrev pub IsEnd : Current → Type 0
IsEnd v = HasNoConflict v.coded ⊎ ((pair : ℕ × ℕ) × IsStuck v.coded pair)

end_stops : (v : Current) (p : TraceStep) (u : Current) → IsEnd v → InsertsCandidate v p u → ⊥
end_stops v p u (inl none) r =
    let zero : r.improves.before ≡ 0 = (none_is_none v.coded r.improves.before r.improves.counted).0 none in
    omega (arith, r.improves.fewer, zero)
end_stops v p u (inr stuck) r =
    let more = stuck.1.no_better r.choice r.improves.before r.improves.best r.improves.counted in
    omega (arith, r.improves.fewer, more)

one_trace : (v : Current) (xs ys : List TraceStep) (w u : Current) → IsCoded v.coded → IsResolvingTrace v xs w
    → IsResolvingTrace v ys u → IsEnd w → IsEnd u → (xs ≡ ys) × (w ≡ u)
one_trace = traces.one_trace InsertsCandidate IsEnd end_stops inserts_of one_resolves

pub resolved_is_unique : ResolvedIsUnique
resolved_is_unique v xs ys w u is a b = one_trace v xs ys w u is a.goes b.goes (inl a.done) (inl b.done)

pub unresolved_is_unique : UnresolvedIsUnique
unresolved_is_unique v xs ys w u a b is x y =
    let same = one_trace v xs ys w u is x.goes y.goes (inr (a, x.stuck)) (inr (b, y.stuck)) in
    let P : Current → Type 0 = λ k. IsStuck k.coded b in
    let stuck = subst P (sym same.1) y.stuck in
    (same.0, same.1, one_conflict w.coded a b x.stuck.conflict stuck.conflict)

pub ends_exclude : EndsExclude
ends_exclude v xs ys w u pair is a b =
    let same = one_trace v xs ys w u is a.goes b.goes (inl a.done) (inr (pair, b.stuck)) in
    let P : Current → Type 0 = λ k. IsStuck k.coded pair in
    a.done pair (subst P (sym same.1) b.stuck).conflict.holds

-- ---- lineages
pub traces_are_lineages : TracesAreLineages
traces_are_lineages = traces.traces_are_lineages InsertsCandidate inserts_of

pub traces_implement : TracesImplement
traces_implement = traces.traces_implement InsertsCandidate inserts_of
