use Rattle.std.proofs.Common.{◌≡◌, ◌++◌}
use Rattle.si_netlist.proofs.WritingLemmas.{inserts_from}
use Rattle.si_netlist.proofs.write.add_insert_lines.Given as goal

abbrev pub invariant-loop-insert : goal.invariant-loop-insert
invariant-loop-insert l = l.text ++ inserts_from l.inserts l.insert-index ≡ l.initial.text ++ inserts_from l.inserts 0
