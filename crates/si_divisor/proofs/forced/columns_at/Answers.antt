use Rattle.std.proofs.Common.{◌≡◌, arith}
use Rattle.si_divisor.proofs.ForcedLemmas.{columns_by_rows}
use Rattle.si_divisor.proofs.forced.columns_at.Goals as goal

pub overflow_add-first : goal.overflow_add-first
overflow_add-first c =
    let few = c.graph-given.ensures.coded.graph_is.few_states in
    omega (arith, few, c.loop-i-test.true, c.requires.states)

pub returns : goal.returns
returns c =
    let all : c.loop-i.i ≡ c.args.count = omega (arith, c.loop-i-test.false, c.loop-i.auto.i-end) in
    columns_by_rows c.args.coded.now c.args.first c.args.count c.loop-i.rows c.turn.new.rows
    (λ i early. c.loop-i.invariant.each i (omega (arith, early, c.loop-i-test.false))) c.requires.block
    c.turn.ensures.turned
