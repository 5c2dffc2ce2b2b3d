use Rattle.si_explain.proofs.ExplainLines.{pair_within, none_explained, one_more_explained, all_explained}
use Rattle.si_explain.proofs.explain.add_conflicts.Goals as goal

pub loop-pair-init : goal.loop-pair-init
loop-pair-init c = none_explained c.args.graph.now c.args.states.now c.args.pairs.now c.args.text.now

pub loop-pair-preserved : goal.loop-pair-preserved
loop-pair-preserved c = one_more_explained c.args.graph.now c.args.states.now c.args.pairs.now c.loop-pair.pair-index
    c.pair-item.result _ c.loop-pair.text c.add_conflict.new.text c.loop-pair-test.true c.pair-item.is
    c.loop-pair.invariant c.in_ok-add_conflict.ensures

pub returns : goal.returns
returns c = all_explained c.args.graph.now c.args.states.now c.args.pairs.now c.loop-pair.pair-index _ _
    c.loop-pair-test.false c.loop-pair.invariant

pub add_conflict-requires-clause-p : goal.add_conflict-requires-clause-p
add_conflict-requires-clause-p c = (pair_within c.args.graph.now c.args.pairs.now c.loop-pair.pair-index
    c.pair-item.result c.requires.pairs c.loop-pair-test.true c.pair-item.is).0

pub add_conflict-requires-clause-q : goal.add_conflict-requires-clause-q
add_conflict-requires-clause-q c = (pair_within c.args.graph.now c.args.pairs.now c.loop-pair.pair-index
    c.pair-item.result c.requires.pairs c.loop-pair-test.true c.pair-item.is).1
