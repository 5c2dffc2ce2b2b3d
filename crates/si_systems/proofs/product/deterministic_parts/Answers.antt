use Rattle.std.proofs.Common.{arith, sym, subst, Ok}
use Rattle.std.proofs.lemmas.List.{length-map}
use Rattle.si_base.specs.GivenGraph.{Sg}
use Rattle.si_base.specs.Graph.{StateGraph}
use Rattle.si_readings.specs.Checks.{IsNamed}
use Rattle.si_readings.proofs.ReadingRefusals.{stops}
use Rattle.si_refusals.specs.Ending.{MayStop, ending_of}
use Rattle.si_sg.specs.GivenGraph.{sg_now}
use Rattle.si_systems.specs.Loops.Parts.{sgs_now}
use Rattle.si_systems.specs.Product.{all_deterministic, deterministic}
use Rattle.si_systems.proofs.EachLemmas.{each_may_stop, each_next}
use Rattle.si_systems.proofs.ListSteps.{mapped_at}
use Rattle.si_systems.proofs.PartLemmas.{named_at}
use Rattle.si_systems.proofs.product.deterministic_parts.Goals as goal

pub deterministic-requires : goal.deterministic-requires
deterministic-requires c =
    let sgs = sgs_now c.args.given.now in
    let sg = c.sg-item.result in
    let many = length-map c.args.given.now sg_now in
    let at = mapped_at sg_now c.args.given.now c.loop-sg.sg-index sg c.loop-sg-test.true c.sg-item.is in
    let named = named_at sgs c.loop-sg.sg-index (sg_now sg) c.requires (omega (arith, many, c.loop-sg-test.true)) in
    subst (λ (g : StateGraph). IsNamed g sg.states) (sym c.in_ok-graph.ensures)
    (subst (λ (g : Sg). IsNamed g.graph g.states) (sym at) named)

pub returns-in_err-part-clause-err : goal.returns-in_err-part-clause-err
returns-in_err-part-clause-err c =
    let sgs = sgs_now c.args.given.now in
    let sg = c.sg-item.result in
    let many = length-map c.args.given.now sg_now in
    let at = mapped_at sg_now c.args.given.now c.loop-sg.sg-index sg c.loop-sg-test.true c.sg-item.is in
    let may = subst (λ (g : StateGraph). MayStop (deterministic g sg.states) (ending_of c.in_err-part.field-0.0))
    c.in_ok-graph.ensures c.in_err-part.ensures.err in
    stops (all_deterministic sgs) c.from_residual-in_err-part.result _ c.from_residual-in_err-part.ensures.1
    (each_may_stop (λ (g : Sg). deterministic g.graph g.states) sgs c.loop-sg.sg-index c.loop-sg.parts.items
    (sg_now sg) _ (omega (arith, many, c.loop-sg-test.true)) at c.loop-sg.invariant may)

pub loop-sg-preserved : goal.loop-sg-preserved
loop-sg-preserved c =
    let sgs = sgs_now c.args.given.now in
    let sg = c.sg-item.result in
    let many = length-map c.args.given.now sg_now in
    let at = mapped_at sg_now c.args.given.now c.loop-sg.sg-index sg c.loop-sg-test.true c.sg-item.is in
    let one = subst (λ (g : StateGraph). deterministic g sg.states (Ok c.in_ok-part.part)) c.in_ok-graph.ensures
    c.in_ok-part.ensures.ok in
    each_next (λ (g : Sg). deterministic g.graph g.states) sgs c.loop-sg.sg-index c.loop-sg.parts.items
    c.push.new.self.items (sg_now sg) c.in_ok-part.part (omega (arith, many, c.loop-sg-test.true)) at
    c.loop-sg.invariant one c.in-Ok.ensures.items
