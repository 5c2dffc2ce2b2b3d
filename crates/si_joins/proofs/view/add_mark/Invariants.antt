use Rattle.std.proofs.Common.{◌≡◌, ◌++◌, ◌/◌, ◌^◌}
use Rattle.si_circuit.specs.Spelling.{digits}
use Rattle.si_joins.proofs.view.add_mark.Given as goal

abbrev pub invariant-loop-i : goal.invariant-loop-i
invariant-loop-i l = l.word ≡ l.initial.word ++ digits l.i (l.bits / 2 ^ l.before)
