use Rattle.std.proofs.Common.{◌≡◌, map, take}
use Rattle.si_circuit.specs.Spelling as spelled
use Rattle.si_circuit.proofs.spelling.descents_after.Given as goal

abbrev pub invariant-loop-x : goal.invariant-loop-x
invariant-loop-x l = l.after.items ≡ map (spelled.copy_descent l.k l.descents) (take l.x-index l.x-items)
