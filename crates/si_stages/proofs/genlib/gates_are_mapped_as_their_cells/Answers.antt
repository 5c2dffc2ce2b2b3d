use Rattle.si_stages.proofs.GenlibLemmas.{cells_serve_gates, gates_serve_cells}
use Rattle.si_stages.proofs.genlib.gates_are_mapped_as_their_cells.Goals as goal

pub returns : goal.returns
returns c = λ pins g a n b m written output made. (
  gates_serve_cells pins g a n b m written output made,
  cells_serve_gates pins g a n b m written output made,
)
