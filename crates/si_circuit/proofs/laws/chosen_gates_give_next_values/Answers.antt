use Rattle.si_circuit.proofs.CoveredGates.{chosen_give}
use Rattle.si_circuit.proofs.laws.chosen_gates_give_next_values.Goals as goal

pub returns : goal.returns
returns c = chosen_give
