use Rattle.std.proofs.Common.{◌≤◌, arith, length}
use Rattle.std.proofs.lemmas.List.{take_all}
use Rattle.si_graph.proofs.ValueLemmas.{wrong_more}
use Rattle.si_graph.proofs.values.wrong_signals.Goals as goal

pub loop-arc-preserved : goal.loop-arc-preserved
loop-arc-preserved c a =
    wrong_more c.args.arcs.now c.args.codes.now c.loop-arc.arc-index c.loop-arc.wrong
    c.wrong_at-wrong.result a c.arc-item.result
    (omega arith) c.arc-item.is (c.loop-arc.invariant a)
    (rw (c.code_at-from.ensures, c.code_at-to.ensures) at (c.wrong_at-wrong.ensures a))

pub returns : goal.returns
returns c =
    let all : length c.args.arcs.now ≤ c.loop-arc.arc-index = omega arith in
    rw (take_all c.loop-arc.arc-index c.args.arcs.now all) at c.loop-arc.invariant
