use Rattle.si_circuit.proofs.CoveredGates.{chosen_are_right}
use Rattle.si_circuit.proofs.laws.chosen_gates_are_right.Goals as goal

pub returns : goal.returns
returns c = chosen_are_right
