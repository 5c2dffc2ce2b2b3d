use Rattle.std.proofs.Common.{All, take}
use Rattle.si_checks.specs.Loops.Squares.{ClosesSquare}
use Rattle.si_checks.proofs.squares.closes_with_each.Given as goal

abbrev pub invariant-loop-y : goal.invariant-loop-y
invariant-loop-y l = All (ClosesSquare l.graph l.x) (take l.y-index l.others)
