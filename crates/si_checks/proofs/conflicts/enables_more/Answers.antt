use Rattle.std.proofs.Common.{sym, refl}
use Rattle.std.proofs.lemmas.Bool.{true≢false}
use Rattle.si_checks.proofs.ForkOrder.{out_signal}
use Rattle.si_checks.proofs.ConflictLemmas.{more_found, none_more}
use Rattle.si_checks.proofs.conflicts.enables_more.Goals as goal

pub is_driven-requires : goal.is_driven-requires
is_driven-requires c = out_signal c.args.graph.now c.args.p c.arcs_out-arcs.result.now c.arcs_out-arcs.ensures
    c.loop-a.a-index c.a-item.result c.loop-a-test.true c.a-item.is

pub returns-in-loop-a : goal.returns-in-loop-a
returns-in-loop-a c = (
  (λ _. more_found c.args.graph.now c.args.p c.args.q c.arcs_out-arcs.result.now
      c.arcs_out-arcs.ensures c.loop-a.a-index c.a-item.result c.loop-a-test.true c.a-item.is
      (c.if-not-is_driven.ensures.0 refl) c.if-enabled.ensures),
  (λ _. refl),
)

pub returns : goal.returns
returns c = (
  (λ same. absurd (true≢false (sym same))),
  (λ more. absurd (none_more c.args.graph.now c.args.p c.args.q c.arcs_out-arcs.result.now c.arcs_out-arcs.ensures
      c.loop-a.a-index c.loop-a-test.false c.loop-a.invariant more)),
)
