use Rattle.std.proofs.Common.{◌∙◌}
use Rattle.si_structure.proofs.LookupLemmas.{inverts_told}
use Rattle.si_structure.proofs.decide.inverts.Goals as goal

pub returns-in-Inverted : goal.returns-in-Inverted
returns-in-Inverted c = rw c.in-Inverted.is
    (c.is_some.ensures ∙ inverts_told c.args.cells.now c.place_of_inverter.result c.place_of_inverter.ensures)
