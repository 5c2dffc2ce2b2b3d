use Rattle.si_checks.proofs.ForkOrder.{NoneWithin}
use Rattle.si_same.specs.Loops.Search.{IsLacking}
use Rattle.si_same.proofs.apart.first_lacking.Given as goal

abbrev pub invariant-loop-arc : goal.invariant-loop-arc
invariant-loop-arc l = NoneWithin l.out (λ e. IsLacking l.one l.other l.fn.s l.t e) (λ e. e) l.arc-index
