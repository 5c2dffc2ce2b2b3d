use Rattle.si_netlist_reader.specs.NetlistFault.{insert_fault}
use Rattle.si_netlist_reader.specs.NetlistValue.{insertion_of}
use Rattle.si_netlist_reader.proofs.RowLoopLemmas.{Doing}
use Rattle.si_netlist_reader.proofs.insertions.insert_rows.Given as goal

abbrev pub invariant-loop-k : goal.invariant-loop-k
invariant-loop-k l = Doing insert_fault insertion_of l.names l.from l.fn.rows l.k l.rows l.inserts.items
