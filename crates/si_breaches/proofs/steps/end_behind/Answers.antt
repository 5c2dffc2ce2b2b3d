use Rattle.si_breaches.proofs.StepLemmas.{behind_none, behind_more, behind_all, ends_within}
use Rattle.si_breaches.proofs.steps.end_behind.Goals as goal

pub loop-x-init : goal.loop-x-init
loop-x-init c = behind_none c.args.graph.now c.args.arcs.now c.args.e.now c.args.low

pub loop-x-preserved : goal.loop-x-preserved
loop-x-preserved c = rw c.lesser-least.ensures (behind_more c.args.graph.now c.args.arcs.now c.args.e.now c.args.low
    c.loop-x.x-index c.x-item.result c.loop-x.least c.target_from.result c.loop-x-test.true c.x-item.is
    c.loop-x.invariant c.target_from.ensures)

pub returns-clause-first : goal.returns-clause-first
returns-clause-first c = behind_all c.args.graph.now c.args.arcs.now c.args.e.now c.args.low c.loop-x.x-index
    c.loop-x.least c.loop-x-test.false c.loop-x.invariant

pub returns-clause-within : goal.returns-clause-within
returns-clause-within c =
    let g = c.args.graph.now in
    let arcs = c.args.arcs.now in
    let e = c.args.e.now in
    let low = c.args.low in
    let o = c.loop-x.least in
    let first = behind_all g arcs e low c.loop-x.x-index o c.loop-x-test.false c.loop-x.invariant in
    ends_within g arcs e low o c.arcs-arcs.ensures.graph first
