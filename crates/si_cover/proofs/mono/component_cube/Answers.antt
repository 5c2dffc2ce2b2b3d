use Rattle.std.proofs.Common.{◌≡◌, ◌<◌, ◌∙◌, length, Contains, ap, arith}
use Rattle.si_base.specs.Codes.{code}
use Rattle.si_base.specs.Graph.{StateGraph}
use Rattle.si_cover.specs.Loops.Growing.{IsWider}
use Rattle.si_cover.proofs.GrowingLemmas.{first_grows, widened, growth_takes, covered_more, covered_all}
use Rattle.si_cover.proofs.GrowingLemmas.{component_within}
use Rattle.si_cover.proofs.SetLemmas.{some_lent, lent_in}
use Rattle.si_cover.proofs.mono.component_cube.Goals as goal

pub code-first-requires : goal.code-first-requires
code-first-requires c =
    let r = c.args.region.now in
    let some : 0 < length c.as_slice-er.result.now =
    some_lent r.er _ c.as_slice-er.ensures.states c.requires.excited.some in
    component_within c.args.graph.now r c.index-er-0.result c.graph.ensures.coded c.requires
    (lent_in r.er _ 0 c.index-er-0.result c.as_slice-er.ensures.states some c.index-er-0.is)

pub code-requires : goal.code-requires
code-requires c =
    let r = c.args.region.now in
    component_within c.args.graph.now r c.s-item.result c.graph.ensures.coded c.requires
    (lent_in r.er _ c.loop-s.s-index c.s-item.result c.as_slice-er.ensures.states c.loop-s-test.true c.s-item.is)

pub loop-s-init : goal.loop-s-init
loop-s-init c =
    let g = c.args.graph.now in
    let r = c.args.region.now in
    let some : 0 < length c.as_slice-er.result.now =
    some_lent r.er _ c.as_slice-er.ensures.states c.requires.excited.some in
    let signals : length c.signals-signals.result.now ≡ length g.graph.signals =
    ap length (c.signals-signals.ensures ∙ ap (λ (h : StateGraph). h.signals) c.graph.ensures.same) in
    record {
      grows = first_grows g r.er r.qr c.index-er-0.result _ _ _
          (lent_in r.er _ 0 c.index-er-0.result c.as_slice-er.ensures.states some c.index-er-0.is)
          signals c.code-first.ensures c.of_code-cube.ensures;
      covers = λ j t below at. absurd (omega (arith, below));
    }

pub loop-s-preserved : goal.loop-s-preserved
loop-s-preserved c =
    let g = c.args.graph.now in
    let r = c.args.region.now in
    let s = c.s-item.result in
    let there : Contains r.er s =
    lent_in r.er _ c.loop-s.s-index s c.as_slice-er.ensures.states c.loop-s-test.true c.s-item.is in
    let wider : IsWider c.loop-s.cube (code g s) c.supercube-cube.result =
    widened _ _ _ _ c.code.ensures c.supercube-cube.ensures.literals c.supercube-cube.ensures.least in
    record {
      grows = growth_takes g r.er r.qr c.loop-s.cube c.supercube-cube.result s c.loop-s.invariant.grows there wider;
      covers = covered_more g c.as_slice-er.result.now c.loop-s.s-index s c.loop-s.cube c.supercube-cube.result
          c.loop-s.invariant.covers c.loop-s-test.true c.s-item.is wider;
    }

pub returns-clause-covers : goal.returns-clause-covers
returns-clause-covers c =
    covered_all c.args.graph.now c.args.region.now.er c.as_slice-er.result.now c.loop-s.s-index c.loop-s.cube
    c.as_slice-er.ensures.states c.loop-s-test.false c.loop-s.invariant.covers
