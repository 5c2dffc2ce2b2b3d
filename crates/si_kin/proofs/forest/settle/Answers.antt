use Rattle.std.proofs.Common.{arith}
use Rattle.si_kin.proofs.ForestLemmas.{settled_by, settling_begins}
use Rattle.si_kin.proofs.forest.settle.Goals as goal

pub loop-s-init : goal.loop-s-init
loop-s-init c = settling_begins c.args.parents.now c.requires

pub loop-s-preserved : goal.loop-s-preserved
loop-s-preserved c = settled_by c.args.parents.now c.loop-s.s c.loop-s.parents c.index-parents-s.result
    c.parent.inside.0 c.index-parents-parent.result (omega (arith, c.loop-s-test.true, c.loop-s.invariant.size))
    c.loop-s.invariant c.index-parents-s.is c.parent.view_is c.index-parents-parent.is
