use Rattle.si_checks.specs.Loops.Searches.{LosesOf}
use Rattle.si_checks.proofs.ForkOrder.{NoneWithin}
use Rattle.si_checks.proofs.losses.first_loss_of.Given as goal

abbrev pub invariant-loop-y : goal.invariant-loop-y
invariant-loop-y l = NoneWithin l.arcs (LosesOf l.graph l.s l.lost) (λ b. b.by) l.y-index
