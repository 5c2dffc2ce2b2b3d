use Rattle.si_circuit.proofs.CoveredGates.{cover_gates_give}
use Rattle.si_circuit.proofs.laws.cover_gates_give_next_values.Goals as goal

pub returns : goal.returns
returns c = cover_gates_give
