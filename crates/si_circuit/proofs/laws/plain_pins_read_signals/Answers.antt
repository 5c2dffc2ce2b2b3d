use Rattle.si_circuit.proofs.WireLemmas.{cells_are_wired}
use Rattle.si_circuit.proofs.laws.plain_pins_read_signals.Goals as goal

pub returns : goal.returns
returns c = cells_are_wired
