use Rattle.std.proofs.Common.{[]}
use Rattle.si_base.specs.Proper.{loss_place}
use Rattle.si_told.specs.Loops.Search.{Adds, IsBelow}
use Rattle.si_lint.specs.Loops.Withdrawals.{WithdrawsBy}
use Rattle.si_lint.proofs.withdrawals.withdrawals.Given as goal

abbrev pub invariant-loop-k : goal.invariant-loop-k
invariant-loop-k l =
    Adds loss_place (IsBelow (WithdrawsBy l.graph l.kind) (λ b. b.s) l.k) [] l.found.items
