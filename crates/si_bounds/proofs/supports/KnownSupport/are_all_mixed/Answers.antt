use Rattle.si_bounds.specs.Loops.Supports.{HaveMixed}
use Rattle.si_bounds.proofs.SupportsLemmas.{next_too}
use Rattle.si_bounds.proofs.supports.KnownSupport.are_all_mixed.Goals as goal

pub loop-groups-preserved : goal.loop-groups-preserved
loop-groups-preserved c =
    next_too (HaveMixed c.args.high.now c.args.low.now) c.deref-groups-items.result.now c.loop-groups.groups-index
    c.groups-item.result c.loop-groups-test.true c.groups-item.is c.loop-groups.invariant
    (c.have_mixed.ensures.0 c.if-not-have_mixed.false)
