use Rattle.std.proofs.Common.{◌∙◌, sym}
use Rattle.si_kin.proofs.ForestLemmas.{way_on_by}
use Rattle.si_kin.proofs.forest.root.Goals as goal

pub loop-at-preserved : goal.loop-at-preserved
loop-at-preserved c =
    way_on_by c.args.parents.now c.args.s c.loop-at.parents c.loop-at.at c.at.inside.0 c.index-parents-at.result
    c.index-parents-at-in-loop-at.result c.parent.inside.0 c.index-parents-parent.result c.loop-at.invariant
    c.at.view_is (sym c.ne.ensures ∙ c.loop-at-test.true) c.index-parents-at-in-loop-at.is c.parent.view_is
    c.index-parents-parent.is
