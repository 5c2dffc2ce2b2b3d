use Rattle.si_base.specs.Proper.{loss_place}
use Rattle.si_told.specs.Loops.Search.{Adds, IsOfFirst}
use Rattle.si_lint.specs.Loops.Withdrawals.{WithdrawsAt, IsOfLost}
use Rattle.si_lint.proofs.withdrawals.add_at.Given as goal

abbrev pub invariant-loop-x : goal.invariant-loop-x
invariant-loop-x l = Adds loss_place
    (IsOfFirst (WithdrawsAt l.graph l.kind l.s) IsOfLost l.arcs l.x-index) l.initial.found.items
    l.found.items
