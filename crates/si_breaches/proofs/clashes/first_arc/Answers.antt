use Rattle.std.proofs.Common.{◌∙◌, sym}
use Rattle.std.proofs.lemmas.Bool.{true≢false}
use Rattle.si_breaches.specs.Loops.Breaches.{Meets}
use Rattle.si_breaches.proofs.ClashLemmas.{arc_within, first_found, none_more, none_found}
use Rattle.si_breaches.proofs.clashes.first_arc.Goals as goal

pub is_sought-requires-clause-arc : goal.is_sought-requires-clause-arc
is_sought-requires-clause-arc c = arc_within c.args.graph.now c.arcs-arcs.result.now c.arcs-arcs.ensures.graph
    c.arcs-arcs.ensures.arcs c.loop-x.x-index c.x-item.result c.loop-x-test.true c.x-item.is

pub returns-then-is_sought-clause-within : goal.returns-then-is_sought-clause-within
returns-then-is_sought-clause-within c = arc_within c.args.graph.now c.arcs-arcs.result.now
    c.arcs-arcs.ensures.graph c.arcs-arcs.ensures.arcs c.loop-x.x-index c.x-item.result c.loop-x-test.true c.x-item.is

pub returns-then-is_sought-clause-first : goal.returns-then-is_sought-clause-first
returns-then-is_sought-clause-first c = λ walk ways. first_found c.args.graph.now c.arcs-arcs.result.now
    c.arcs-arcs.ensures.graph c.arcs-arcs.ensures.arcs walk c.args.a c.args.sought.now c.loop-x.x-index c.x-item.result
    c.loop-x-test.true c.x-item.is (c.loop-x.invariant walk ways)
    ((c.is_sought.ensures walk ways).0 c.if-is_sought.true)

pub loop-x-preserved : goal.loop-x-preserved
loop-x-preserved c = λ walk ways. none_more c.args.graph.now c.arcs-arcs.result.now c.arcs-arcs.ensures.graph
    c.arcs-arcs.ensures.arcs (Meets walk c.args.a c.args.sought.now) c.loop-x.x-index c.x-item.result
    c.loop-x-test.true c.x-item.is (c.loop-x.invariant walk ways)
    (λ met. true≢false (sym ((c.is_sought.ensures walk ways).1 met) ∙ c.if-is_sought.false))

pub returns-clause-first : goal.returns-clause-first
returns-clause-first c = λ walk ways. none_found c.args.graph.now c.arcs-arcs.result.now c.arcs-arcs.ensures.graph
    c.arcs-arcs.ensures.arcs walk c.args.a c.args.sought.now c.loop-x.x-index c.loop-x-test.false
    (c.loop-x.invariant walk ways)
