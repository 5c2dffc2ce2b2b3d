use Rattle.std.proofs.Common.{◌≡◌, ◌++◌}
use Rattle.si_circuit.specs.Spelling.{digits}
use Rattle.si_circuit.proofs.spelling.add_mark.Given as goal

abbrev pub invariant-loop-i : goal.invariant-loop-i
invariant-loop-i l = l.word.items ≡ l.initial.word.items ++ digits l.i l.bits
