use Rattle.si_checks.specs.Loops.Searches.{LosesAt}
use Rattle.si_checks.proofs.ForkOrder.{NoneWithin}
use Rattle.si_checks.proofs.losses.first_loss_at.Given as goal

abbrev pub invariant-loop-x : goal.invariant-loop-x
invariant-loop-x l = NoneWithin l.arcs (LosesAt l.graph l.s) (λ b. b.lost) l.x-index
