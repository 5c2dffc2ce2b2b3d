use Rattle.std.proofs.Common.{◌<◌, ◌++◌, arith, get_or}
use Rattle.si_match.specs.Fit.{suits}
use Rattle.si_match.proofs.StateLemmas.{one_fails}
use Rattle.si_match.proofs.refute.is_refuted.Goals as goal

pub returns-then-is_refuted_at : goal.returns-then-is_refuted_at
returns-then-is_refuted_at c = λ _ rest count inside. (
    let below : get_or c.args.states.now c.loop-state.state-index 0 < c.args.coded.now.graph.states =
    c.requires.states c.loop-state.state-index 0 c.loop-state-test.true in
    one_fails c.args.coded.now (suits c.args.coded.now c.args.z c.args.cell.now (c.args.literals.now
    ++ rest)) _ (omega (arith, below, c.requires.coded.count))
    (c.is_refuted_at.ensures c.if-is_refuted_at.true rest count))
