use Rattle.si_finder.specs.Loops.Turns.{AreTurnsBelow}
use Rattle.si_finder.proofs.switch_sets.turn_sets.Given as goal

abbrev pub invariant-loop-x : goal.invariant-loop-x
invariant-loop-x l = AreTurnsBelow l.netlist l.places l.z l.reached l.x-index l.sets.plus l.sets.minus
