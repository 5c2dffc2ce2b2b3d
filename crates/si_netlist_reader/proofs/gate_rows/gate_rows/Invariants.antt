use Rattle.std.proofs.Common.{map}
use Rattle.si_netlist_reader.specs.Loops.Headers.{gate_in}
use Rattle.si_netlist_reader.specs.GateParts.{gate_fault}
use Rattle.si_netlist.specs.Loops.Parts.{gate_seen}
use Rattle.si_netlist_reader.proofs.RowLoopLemmas.{Doing}
use Rattle.si_netlist_reader.proofs.gate_rows.gate_rows.Given as goal

abbrev pub invariant-loop-k : goal.invariant-loop-k
invariant-loop-k l =
    Doing (gate_fault l.signals) (gate_in l.signals) l.signals l.from l.fn.rows l.k l.rows (map gate_seen l.gates.items)
