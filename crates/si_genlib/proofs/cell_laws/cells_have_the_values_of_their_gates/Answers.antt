use Rattle.si_genlib.proofs.CellValueLemmas.{cell_value}
use Rattle.si_genlib.proofs.cell_laws.cells_have_the_values_of_their_gates.Goals as goal

pub returns : goal.returns
returns c = cell_value
