use Rattle.si_structure.proofs.LookupLemmas.{inverter_told}
use Rattle.si_structure.proofs.lookup.inverter_of.Goals as goal

pub returns : goal.returns
returns c = inverter_told c.args.library.now c.cells_of.ensures.ported c.place_of_inverter.result
    (rw c.cells_of.ensures.cells at c.place_of_inverter.ensures)
