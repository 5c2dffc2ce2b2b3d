use Rattle.std.proofs.Common.{◌≡◌, take}
use Rattle.si_joins.specs.Lifted.{names_in_part}
use Rattle.si_joins.proofs.view.names_in_part.Given as goal

abbrev pub invariant-loop-tuple : goal.invariant-loop-tuple
invariant-loop-tuple l = l.names ≡ names_in_part l.states l.i (take l.tuple-index l.tuples)
