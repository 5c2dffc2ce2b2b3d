use Rattle.si_checks.specs.Loops.Searches.{ForksAt}
use Rattle.si_checks.proofs.ForkOrder.{NoneWithin}
use Rattle.si_checks.proofs.forks.first_fork_at.Given as goal

abbrev pub invariant-loop-x : goal.invariant-loop-x
invariant-loop-x l = NoneWithin l.arcs (ForksAt l.graph l.fn.s) (λ b. b.a) l.x-index
