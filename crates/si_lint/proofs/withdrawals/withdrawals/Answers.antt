use Rattle.std.proofs.Common.{[], arith}
use Rattle.si_base.specs.Proper.{loss_place}
use Rattle.si_lint.specs.Loops.Withdrawals.{WithdrawsBy}
use Rattle.si_told.proofs.Alls.{below_none, below_more, below_all}
use Rattle.si_lint.proofs.WithdrawalLemmas.{state_order, state_within}
use Rattle.si_lint.proofs.withdrawals.withdrawals.Goals as goal

pub loop-k-init : goal.loop-k-init
loop-k-init c = rw c.new-found.ensures.items (below_none loss_place
    (WithdrawsBy c.args.graph.now c.args.kind.now) (λ b. b.s)
    (state_order c.args.graph.now c.args.kind.now) [])

pub loop-k-preserved : goal.loop-k-preserved
loop-k-preserved c =
    let g = c.args.graph.now in
    let kind = c.args.kind.now in
    below_more loss_place (WithdrawsBy g kind) (λ b. b.s) (state_order g kind) c.loop-k.k [] c.loop-k.found.items _
    c.loop-k.invariant c.in_ok-add_at.ensures

pub returns : goal.returns
returns c =
    let g = c.args.graph.now in
    let kind = c.args.kind.now in
    below_all loss_place (WithdrawsBy g kind) (λ b. b.s) (state_order g kind) c.loop-k.k c.loop-k.found.items
    (state_within g kind c.loop-k.k c.arcs-arcs.ensures.graph (omega (arith, c.loop-k-test.false, c.states-k-end.ensures)))
    c.loop-k.invariant
