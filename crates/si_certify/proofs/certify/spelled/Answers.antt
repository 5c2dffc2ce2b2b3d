use Rattle.std.proofs.Common.{subst}
use Rattle.si_base.specs.WellFormed.{IsNetlist}
use Rattle.si_certify.proofs.SpelledLemmas.{spelled_is_netlist}
use Rattle.si_certify.proofs.ThereLemmas.{counted_there}
use Rattle.si_certify.proofs.certify.spelled.Goals as goal

pub with_lines-spelled-requires : goal.with_lines-spelled-requires
with_lines-spelled-requires c =
    let a = c.args in
    let netlist = subst IsNetlist c.netlist.view_is c.netlist.invariant in
    rw c.in_ok-inserts-in-Ok.ensures (spelled_is_netlist a.states.now a.graph a.netlist c.in-Ok.lineage
    c.in-Ok.ensures.fits c.requires.names netlist)

pub reason_of-requires-clause-there : goal.reason_of-requires-clause-there
reason_of-requires-clause-there c =
    let a = c.args in
    let netlist = subst IsNetlist c.netlist.view_is c.netlist.invariant in
    counted_there a.graph c.coded.result.now c.graph.result.now c.signals-given.result.now a.netlist
    c.signals.result.now a.states.now c.in-Err.why c.coded.ensures.same c.graph.ensures.same c.signals-given.ensures
    c.signals.ensures.signals c.graph.ensures.coded c.coded.ensures.proper c.requires.names.count netlist
    c.requires.fits c.in-Err.ensures.none
