use Rattle.std.proofs.Common.{◌≡◌}
use Rattle.si_circuit.specs.Spelling as spelled
use Rattle.si_circuit.proofs.spelling.given_descents.Given as goal

abbrev pub invariant-loop-s : goal.invariant-loop-s
invariant-loop-s l = l.descents.items ≡ spelled.given_descents l.s
