use Rattle.si_walks.specs.Distances.{IsNearer}
use Rattle.si_checks.proofs.ForkOrder.{NoneWithin}
use Rattle.si_walks.proofs.walk.first_nearer.Given as goal

abbrev pub invariant-loop-arc : goal.invariant-loop-arc
invariant-loop-arc l = NoneWithin l.out (IsNearer l.graph l.arcs l.distances l.fn.s) (λ b. b.event) l.arc-index
