use Rattle.std.proofs.Common.{◌≡◌, ◌≤◌, ◌∙◌, ℕ, Bool, arith, ap}
use Rattle.si_base.specs.Codes.{code}
use Rattle.si_base.specs.Graph.{StateGraph}
use Rattle.si_bounds.specs.Loops.Points.{point_of, with_last}
use Rattle.si_bounds.proofs.PointLemmas.{all_points, one_point}
use Rattle.si_bounds.proofs.points.points_of.Goals as goal

pub loop-s-preserved : goal.loop-s-preserved
loop-s-preserved c =
    let coded = c.args.coded.now in
    let places = c.args.places.now in
    let is : c.with_last-point.result ≡ point_of coded c.args.z places c.loop-s.s =
    c.with_last-point.ensures.value
    ∙ ap (λ (k : ℕ). with_last c.args.z places k c.next_value.result) c.code.ensures
    ∙ ap (λ (b : Bool). with_last c.args.z places (code coded c.loop-s.s) b) c.next_value.ensures in
    one_point coded c.args.z places c.loop-s.s c.with_last-point.result c.loop-s.at.items c.push.new.self.items
    c.loop-s.seen c.with_point-seen.result c.loop-s.invariant is c.with_last-point.ensures.small
    c.in_ok-push.ensures.items c.with_point-seen.ensures

pub returns : goal.returns
returns c =
    let states = c.states-s-end.ensures ∙ ap (λ (g : StateGraph). g.states) c.graph.ensures.same in
    let past : c.args.coded.now.graph.states ≤ c.loop-s.s = omega (arith, c.loop-s-test.false, states) in
    let within : c.loop-s.s ≤ c.args.coded.now.graph.states = omega (arith, c.loop-s.auto.s-end, states) in
    all_points c.args.coded.now c.args.z c.args.places.now c.loop-s.s _ past within c.loop-s.invariant
