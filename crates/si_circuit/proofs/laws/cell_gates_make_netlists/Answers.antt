use Rattle.si_circuit.proofs.CellLemmas.{cells_are_netlist}
use Rattle.si_circuit.proofs.laws.cell_gates_make_netlists.Goals as goal

pub returns : goal.returns
returns c = cells_are_netlist
