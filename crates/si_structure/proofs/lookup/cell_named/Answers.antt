use Rattle.si_structure.proofs.LookupLemmas.{named_told}
use Rattle.si_structure.proofs.lookup.cell_named.Goals as goal

pub returns : goal.returns
returns c = named_told c.args.library.now c.cells_of.ensures.ported c.args.name.now c.place_of.result
    (rw c.cells_of.ensures.cells at c.place_of.ensures)
