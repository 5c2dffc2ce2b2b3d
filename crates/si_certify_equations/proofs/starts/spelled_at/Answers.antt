use Rattle.std.proofs.Common.{subst}
use Rattle.si_base.specs.Codes.{IsCoded}
use Rattle.si_refusals.specs.Refusal.{Rejected}
use Rattle.si_certify_equations.proofs.StartsLemmas.{copy_fits_none, copy_is_for, started_is}
use Rattle.si_certify_equations.proofs.starts.spelled_at.Goals as goal

-- ---- the netlist with the start values is for the copy of the graph
pub spelled-requires-clause-fits : goal.spelled-requires-clause-fits
spelled-requires-clause-fits c =
    let a = c.args in
    let is = started_is a.graph.now a.netlist.now c.in_ok-netlist.netlist a.values _ _ _ c.coded.ensures.same
    c.graph.ensures.same c.signals-given.ensures (rw c.from.ensures at c.in_ok-netlist.ensures) in
    copy_is_for a.graph.now c.in_ok-copy.field-0 a.netlist.now c.in_ok-netlist.netlist a.values c.in_ok-copy.ensures
    is c.requires.fits

-- ---- a refusal shows that none fits
pub returns-in-Err-Rejected-clause-unfit : goal.returns-in-Err-Rejected-clause-unfit
returns-in-Err-Rejected-clause-unfit c =
    let a = c.args in
    let is = started_is a.graph.now a.netlist.now c.in_ok-netlist.netlist a.values _ _ _ c.coded.ensures.same
    c.graph.ensures.same c.signals-given.ensures (rw c.from.ensures at c.in_ok-netlist.ensures) in
    let coded = subst IsCoded c.coded.ensures.same c.graph.ensures.coded in
    copy_fits_none a.states.now a.graph.now a.netlist.now coded c.coded.ensures.proper c.in_ok-copy.field-0
    c.in_ok-netlist.netlist a.values (Rejected c.in-Err-Rejected.reason) c.in_ok-copy.ensures is
    (rw c.in-Err-Rejected.field-0-is at c.in-Err-Rejected.ensures.err)
