use Rattle.std.proofs.Common.{◌≡◌, List, length, filter, ap, ◌∙◌, arith}
use Rattle.si_base.specs.declared.ids.Literal.{Literal}
use Rattle.si_base.specs.Codes.{code}
use Rattle.si_base.specs.Netlist.{literal_value}
use Rattle.si_cover.specs.Loops.Growing.{IsWider}
use Rattle.si_cover.proofs.GrowingLemmas.{widened, growth_goes_on, growth_ends, none_demanded, turns_drop}
use Rattle.si_cover.proofs.mono.least_falling.Goals as goal

pub loop-s-smaller : goal.loop-s-smaller
loop-s-smaller c =
    let k = code c.args.graph.now c.in-Some.s in
    let less = turns_drop c.loop-s.cube k c.in-Some.ensures.demanded.left in
    let same : length c.supercube-cube.result ≡ length (filter (literal_value k) c.loop-s.cube) =
    ap (λ (xs : List Literal). length xs)
    (c.supercube-cube.ensures.literals ∙ ap (λ j. filter (literal_value j) c.loop-s.cube) c.code.ensures) in
    omega (arith, less, same)

pub loop-s-preserved : goal.loop-s-preserved
loop-s-preserved c =
    let g = c.args.graph.now in
    let r = c.args.region.now in
    let s = c.in-Some.s in
    let d = c.in-Some.ensures.demanded in
    let wider : IsWider c.loop-s.cube (code g s) c.supercube-cube.result =
    widened _ _ _ _ c.code.ensures c.supercube-cube.ensures.literals c.supercube-cube.ensures.least in
    record {
      grows = growth_goes_on g r.er r.qr c.loop-s.cube c.supercube-cube.result s d.e d.t c.loop-s.invariant.grows
          d.step d.there d.covers wider;
      covers = λ t there. wider.least.above.keeps (code g t) (c.loop-s.invariant.covers t there);
    }

pub returns : goal.returns
returns c =
    let g = c.args.graph.now in
    let r = c.args.region.now in
    growth_ends g r.er r.qr c.loop-s.cube c.loop-s.invariant.grows c.loop-s.invariant.covers
    (none_demanded g r.qr c.loop-s.cube c.in_default.ensures.demanded)
