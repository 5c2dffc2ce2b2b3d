use Rattle.std.proofs.Common.{arith, refl}
use Rattle.std.proofs.lemmas.Option.{slice_get_read, slice_get_within}
use Rattle.si_finder.specs.Loops.Turns.{seen}
use Rattle.si_finder.proofs.TurnLemmas.{none_yet, next_turns, no_turn, all_turns}
use Rattle.si_finder.proofs.switch_sets.turn_sets.Goals as goal
use Rattle.si_finder.proofs.switch_sets.turn_sets.Goals.{in-Some, in_default}

pub loop-x-init : goal.loop-x-init
loop-x-init c = none_yet c.args.netlist.now c.args.places.now c.args.z c.args.reached.now c.args.states
    c.in_ok-sets.sets.plus c.in_ok-sets.sets.minus c.requires.count c.in_ok-sets.ensures.plus
    c.in_ok-sets.ensures.minus

pub add-requires-clause-plus : goal.add-requires-clause-plus
add-requires-clause-plus c =
    let within = slice_get_within c.args.places.now c.in-Some.turn.state (seen c.args.z c.x-item.result)
    c.in-Some.ensures.place in
    omega (arith, within, c.loop-x.invariant.rises.size)

pub add-requires-clause-minus : goal.add-requires-clause-minus
add-requires-clause-minus c =
    let within = slice_get_within c.args.places.now c.in-Some.turn.state (seen c.args.z c.x-item.result)
    c.in-Some.ensures.place in
    omega (arith, within, c.loop-x.invariant.falls.size)

pub loop-x-preserved : goal.loop-x-preserved
loop-x-preserved c =
    let n = c.args.netlist.now in
    let places = c.args.places.now in
    let xs = c.args.reached.now in
    let k = c.loop-x.x-index in
    let x = c.x-item.result in
    let there = slice_get_read xs _ k x refl c.loop-x-test.true c.x-item.is in
    elim c.match-turn_at.branch [
      | in-Some w ↦ rw w.sets-is (next_turns n places c.args.z xs c.requires.once k x w.in-Some.turn.state
          w.in-Some.turn.up c.loop-x.sets.plus c.loop-x.sets.minus w.add.new.self.plus w.add.new.self.minus there
          w.in-Some.ensures w.add.ensures.plus w.add.ensures.minus c.loop-x.invariant)
      | in_default w ↦ rw w.sets-is (no_turn n places c.args.z xs k x c.loop-x.sets.plus c.loop-x.sets.minus there
          w.in_default.ensures c.loop-x.invariant)
    ]

pub returns : goal.returns
returns c = all_turns c.args.netlist.now c.args.places.now c.args.z c.args.reached.now c.loop-x.x-index
    c.loop-x.sets.plus c.loop-x.sets.minus c.loop-x-test.false c.loop-x.invariant
