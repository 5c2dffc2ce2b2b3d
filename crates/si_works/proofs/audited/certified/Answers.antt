use Rattle.std.proofs.Common.{sym, subst}
use Rattle.si_refusals.specs.Ending.{MayStop}
use Rattle.si_works.specs.Audited.{certified}
use Rattle.si_works.proofs.AuditedLemmas.{several_stops}
use Rattle.si_works.proofs.audited.certified.Goals as goal

pub returns-in-Err-clause-err : goal.returns-in-Err-clause-err
returns-in-Err-clause-err c =
    let a = c.args in
    subst (MayStop (certified a.graph_file.now a.graph.now a.netlist_file.now a.netlist.now)) (sym c.of_several.ensures)
    (several_stops a.graph_file.now a.graph.now a.netlist_file.now a.netlist.now _ c.in-Err.ensures.err)
