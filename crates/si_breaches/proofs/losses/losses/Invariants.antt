use Rattle.std.proofs.Common.{[]}
use Rattle.si_base.specs.Proper.{Loses, loss_place}
use Rattle.si_told.specs.Loops.Search.{Adds, IsBelow}
use Rattle.si_breaches.proofs.losses.losses.Given as goal

abbrev pub invariant-loop-k : goal.invariant-loop-k
invariant-loop-k l = Adds loss_place (IsBelow (Loses l.graph) (λ b. b.s) l.k) [] l.found.items
