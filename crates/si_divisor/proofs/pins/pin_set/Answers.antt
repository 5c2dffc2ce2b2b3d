use Rattle.std.proofs.Common.{◌≡◌, ◌*◌, ◌<◌, ◌≤◌, ◌∙◌, sym, ap, subst, length, List, rules, arith}
use Rattle.si_base.specs.Codes.{CodedGraph}
use Rattle.si_base.specs.declared.ids.Literal.{Literal}
use Rattle.si_base.specs.declared.graph.Signal.{Signal}
use Rattle.si_checks.specs.Loops.Lent.{coded_of}
use Rattle.si_divisor.specs.Divisors.{ArePins}
use Rattle.si_divisor.specs.Loops.PinTests.{is_pin, pin_literals}
use Rattle.si_divisor.proofs.PinLemmas.{put_last, left_out, all_passed, are_pins}
use Rattle.si_divisor.proofs.pins.pin_set.Goals as goal
use Rattle.si_divisor.proofs.pins.pin_set.Goals.{then-is_pin+in_ok-push, else-is_pin}

-- the signals are those of the graph
count_is : (c g : CodedGraph) (signals : List Signal) → signals ≡ g.graph.signals → g ≡ c
    → length signals ≡ length c.graph.signals
count_is c g signals here same = ap length here ∙ ap (λ (x : CodedGraph). length x.graph.signals) same

pub loop-place-preserved : goal.loop-place-preserved
loop-place-preserved c =
    let support = c.in_ok-support.support in
    let cubes = c.in_ok-cubes.cubes.items in
    let n = length (coded_of c.args.graph).graph.signals in
    let place = c.loop-place.place in
    let l = c.literal_at-literal.result in
    let count : length c.signals.result.now ≡ n =
    count_is (coded_of c.args.graph) c.coded.result.now c.signals.result.now
    (c.signals.ensures ∙ ap (λ g. g.signals) c.graph.ensures.same) (c.coded.ensures.same ∙ c.proper.ensures.same) in
    let test = c.loop-place-test.true in
    let within : place < 2 * n = omega (arith, test, count) in
    let told : c.is_pin.result ≡ is_pin support cubes l =
    c.is_pin.ensures ∙ ap (λ (xs : List (List Literal)). is_pin support xs l) c.as_slice.ensures.value in
    elim c.if-is_pin.branch [
      | then-is_pin+in_ok-push w ↦ (
          let new : c.if-is_pin.pins.items ≡ w.push.new.self.items = search rules in
          put_last support cubes n place l within c.literal_at-literal.ensures c.loop-place.pins.items
          c.loop-place.invariant (sym told ∙ w.if-is_pin.true) c.if-is_pin.pins.items
          (new ∙ w.in_ok-push.ensures.items))
      | else-is_pin w ↦ (
          let old : c.if-is_pin.pins.items ≡ c.loop-place.pins.items = search rules in
          old ∙ left_out support cubes n place l within c.literal_at-literal.ensures c.loop-place.pins.items
          c.loop-place.invariant (sym told ∙ w.if-is_pin.false))
    ]

pub returns : goal.returns
returns c =
    let graph = coded_of c.args.graph in
    let cubes = c.in_ok-cubes.cubes.items in
    let n = length graph.graph.signals in
    let count : length c.signals.result.now ≡ n =
    count_is graph c.coded.result.now c.signals.result.now
    (c.signals.ensures ∙ ap (λ g. g.signals) c.graph.ensures.same) (c.coded.ensures.same ∙ c.proper.ensures.same) in
    let test = c.loop-place-test.false in
    let past : 2 * n ≤ c.loop-place.place = omega (arith, test, count) in
    let all = all_passed c.in_ok-support.support cubes n c.loop-place.place c.loop-place.pins.items past
    c.loop-place.invariant ∙ ap (λ support. pin_literals n support cubes) c.in_ok-support.ensures in
    subst (ArePins graph c.args.z) (sym all) (are_pins graph c.args.z cubes c.in_ok-cubes.ensures)
