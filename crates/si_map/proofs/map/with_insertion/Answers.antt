use Rattle.std.proofs.Common.{sym, subst}
use Rattle.si_base.specs.Codes.{IsCoded}
use Rattle.si_insert.specs.Lineage.{Extends, History}
use Rattle.si_insert.specs.declared.lineage.TraceStep.{TraceStep}
use Rattle.si_map.proofs.TraceLemmas.{free_next}
use Rattle.si_map.proofs.map.with_insertion.Goals as goal

pub known-requires : goal.known-requires
known-requires c =
    let before = c.args.resolved in
    let step : TraceStep = record { name = c.args.insertion.name; partition = c.args.insertion.accepted } in
    let coded : IsCoded before.current.coded = rw (sym c.lineage.ensures.same) c.current-current.ensures.kept.coded in
    let P : History → Type 0 = λ l. Extends l step c.in-Ok.next in
    let line = subst P c.into_lineage-lineage.ensures c.in-Ok.ensures.line in
    free_next before.current step c.in-Ok.next.current coded line.inserts c.requires.free

pub known-requires-in-Err : goal.known-requires-in-Err
known-requires-in-Err c =
    let same = c.in-Err.ensures.back.0 in
    let whole = c.into_lineage-lineage.ensures in
    let none = c.lineage.ensures.resolved in
    rw (same, whole) none
