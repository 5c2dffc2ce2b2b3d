use Rattle.std.proofs.Common.{subst}
use Rattle.si_base.specs.Codes.{IsCoded}
use Rattle.si_fold.proofs.FoldedBehaviour.{folded_behaviour}
use Rattle.si_tool.proofs.fold_law.fold_law.Goals as goal

pub returns : goal.returns
returns c =
    let coded = subst IsCoded c.coded.ensures.same c.graph-graph.ensures.coded in
    folded_behaviour c.args.graph.now c.args.folded.now.graph c.args.folded.now.kept.items
    c.args.folded.now.class.items c.args.netlist.now coded c.requires.folded
