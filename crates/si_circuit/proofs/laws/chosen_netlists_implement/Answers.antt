use Rattle.si_circuit.proofs.CoveredGates.{chosen_implement}
use Rattle.si_circuit.proofs.laws.chosen_netlists_implement.Goals as goal

pub returns : goal.returns
returns c = chosen_implement
