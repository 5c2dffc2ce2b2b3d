use Rattle.std.proofs.Common.{[]}
use Rattle.si_carried.specs.Lint.{IsDeadState}
use Rattle.si_told.specs.All.{number_place}
use Rattle.si_told.specs.Loops.Search.{Adds, IsBelow}
use Rattle.si_lint.proofs.dead.dead.Given as goal

abbrev pub invariant-loop-k : goal.invariant-loop-k
invariant-loop-k l = Adds number_place (IsBelow (IsDeadState l.graph) (λ s. s) l.k) [] l.found.items
