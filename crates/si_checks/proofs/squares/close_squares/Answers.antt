use Rattle.std.proofs.Common.{◌+◌, refl, sym}
use Rattle.std.proofs.lemmas.Bool.{true≢false}
use Rattle.si_checks.proofs.ForkOrder.{out_signal}
use Rattle.si_checks.proofs.SquareLemmas.{close_more, all_close, each_closes, later_signals}
use Rattle.si_checks.proofs.squares.close_squares.Goals as goal

pub closes_with_each-requires-clause-signal : goal.closes_with_each-requires-clause-signal
closes_with_each-requires-clause-signal c = out_signal c.args.graph.now c.args.s c.arcs_out-arcs.result.now
    c.arcs_out-arcs.ensures c.loop-k.k c.index-arcs-k.result c.loop-k-test.true c.index-arcs-k.is

pub closes_with_each-requires-clause-signals : goal.closes_with_each-requires-clause-signals
closes_with_each-requires-clause-signals c = rw c.split_at.ensures.back
    (later_signals c.args.graph.now c.args.s c.arcs_out-arcs.result.now c.arcs_out-arcs.ensures (c.loop-k.k + 1))

pub loop-k-preserved : goal.loop-k-preserved
loop-k-preserved c =
    close_more c.args.graph.now c.args.s c.arcs_out-arcs.result.now c.arcs_out-arcs.ensures c.loop-k.k
    c.index-arcs-k.result c.loop-k-test.true c.index-arcs-k.is c.loop-k.invariant
    (rw c.split_at.ensures.back at (c.if-not-closes_with_each.ensures.0 refl))

pub returns-then-not-closes_with_each : goal.returns-then-not-closes_with_each
returns-then-not-closes_with_each c = (
  λ never. absurd (true≢false (sym never)),
  λ closes. c.if-not-closes_with_each.ensures.1
      (rw c.split_at.ensures.back (each_closes c.args.graph.now c.args.s c.arcs_out-arcs.result.now
      c.arcs_out-arcs.ensures c.requires c.loop-k.k c.index-arcs-k.result c.loop-k-test.true c.index-arcs-k.is closes)),
)

pub returns : goal.returns
returns c = (
  λ _. all_close c.args.graph.now c.args.s c.arcs_out-arcs.result.now c.arcs_out-arcs.ensures c.loop-k.k
      c.loop-k-test.false c.loop-k.invariant,
  λ _. refl,
)
