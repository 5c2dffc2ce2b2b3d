use Rattle.si_checks.specs.Loops.Searches.{ForksBy}
use Rattle.si_checks.proofs.ForkOrder.{NoneWithin}
use Rattle.si_checks.proofs.forks.first_fork_by.Given as goal

abbrev pub invariant-loop-y : goal.invariant-loop-y
invariant-loop-y l = NoneWithin l.arcs (ForksBy l.graph l.x.from l.x.event) (λ b. b.c) l.y-index
