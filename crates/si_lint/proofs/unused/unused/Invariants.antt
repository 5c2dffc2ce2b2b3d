use Rattle.std.proofs.Common.{[]}
use Rattle.si_carried.specs.Lint.{IsUnused}
use Rattle.si_told.specs.All.{number_place}
use Rattle.si_told.specs.Loops.Search.{Adds, IsBelow}
use Rattle.si_lint.proofs.unused.unused.Given as goal

abbrev pub invariant-loop-k : goal.invariant-loop-k
invariant-loop-k l = Adds number_place (IsBelow (IsUnused l.graph) (λ a. a) l.k) [] l.found.items
