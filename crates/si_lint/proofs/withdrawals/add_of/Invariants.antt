use Rattle.si_base.specs.Proper.{loss_place}
use Rattle.si_told.specs.Loops.Search.{Adds, IsOfFirst}
use Rattle.si_lint.specs.Loops.Withdrawals.{WithdrawsOf, IsOfCause}
use Rattle.si_lint.proofs.withdrawals.add_of.Given as goal

abbrev pub invariant-loop-y : goal.invariant-loop-y
invariant-loop-y l = Adds loss_place
    (IsOfFirst (WithdrawsOf l.graph l.kind l.s l.lost) IsOfCause l.arcs l.y-index)
    l.initial.found.items l.found.items
