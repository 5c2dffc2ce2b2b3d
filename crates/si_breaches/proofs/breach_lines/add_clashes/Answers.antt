use Rattle.si_breaches.proofs.BreachLines.{clash_at, clashes_none, clashes_more, clashes_all}
use Rattle.si_breaches.proofs.breach_lines.add_clashes.Goals as goal

pub loop-clashing-init : goal.loop-clashing-init
loop-clashing-init c = clashes_none c.args.graph.now c.args.states.now c.args.found.now c.args.text.now

pub add_clash-requires-clause-within : goal.add_clash-requires-clause-within
add_clash-requires-clause-within c = clash_at c.args.graph.now c.args.found.now c.loop-clashing.clashing-index
    c.clashing-item.result c.requires.within c.loop-clashing-test.true c.clashing-item.is

pub loop-clashing-preserved : goal.loop-clashing-preserved
loop-clashing-preserved c = clashes_more c.args.graph.now c.args.states.now c.args.found.now
    c.loop-clashing.clashing-index c.clashing-item.result c.args.text.now c.loop-clashing.text _
    c.loop-clashing-test.true c.clashing-item.is c.loop-clashing.invariant c.in_ok-add_clash.ensures

pub returns : goal.returns
returns c = clashes_all c.args.graph.now c.args.states.now c.args.found.now c.loop-clashing.clashing-index
    c.args.text.now c.loop-clashing.text c.loop-clashing-test.false c.loop-clashing.invariant
