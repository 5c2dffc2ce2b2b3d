use Rattle.si_circuit.proofs.CellLemmas.{cells_give}
use Rattle.si_circuit.proofs.laws.cell_gates_give_next_values.Goals as goal

pub returns : goal.returns
returns c = cells_give
