use Rattle.si_circuit.proofs.CoveredGates.{chosen_are_prime}
use Rattle.si_circuit.proofs.laws.chosen_gates_are_prime.Goals as goal

pub returns : goal.returns
returns c = chosen_are_prime
