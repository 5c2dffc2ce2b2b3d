use Rattle.si_genlib.proofs.CellValueLemmas.{cell_cover}
use Rattle.si_genlib.proofs.cell_laws.sums_of_cells_are_prime_covers.Goals as goal

pub returns : goal.returns
returns c = cell_cover
