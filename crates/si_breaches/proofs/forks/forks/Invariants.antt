use Rattle.std.proofs.Common.{[]}
use Rattle.si_base.specs.Proper.{fork_place}
use Rattle.si_breaches.specs.Breaches.{IsFirstFork}
use Rattle.si_told.specs.Loops.Search.{Adds, IsBelow}
use Rattle.si_breaches.proofs.forks.forks.Given as goal

abbrev pub invariant-loop-k : goal.invariant-loop-k
invariant-loop-k l = Adds fork_place (IsBelow (IsFirstFork l.graph) (λ b. b.s) l.k) [] l.found.items
