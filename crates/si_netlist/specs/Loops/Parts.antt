-- Gates and insertions of the code, as the definitions see them.
use Rattle.si_base.specs.Netlist as base
use Rattle.si_netlist.specs.declared.gate.Gate.{Gate}
use Rattle.si_netlist.specs.declared.gate.Gate.TheVariants.{Sum, Gc, Cell}

abbrev pub gate_seen : Gate → base.Gate
gate_seen (Sum sum) = base.SumGate sum
gate_seen (Gc set reset) = base.Gc set reset
gate_seen (Cell name literals sum) = base.Cell name literals.items sum
