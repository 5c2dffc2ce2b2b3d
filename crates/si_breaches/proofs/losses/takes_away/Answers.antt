use Rattle.std.proofs.Common.{◌∙◌, sym, refl}
use Rattle.std.proofs.lemmas.Bool.{true≢false}
use Rattle.si_breaches.proofs.LossLemmas.{apart_events, kept_more, taken, not_taken}
use Rattle.si_breaches.proofs.losses.takes_away.Goals as goal

pub loop-x-preserved : goal.loop-x-preserved
loop-x-preserved c = kept_more c.args.graph.now c.args.s c.args.lost.now c.args.by.now c.arcs_by-arcs.result.now
    c.arcs_by-arcs.ensures c.loop-x.x-index c.x-item.result c.loop-x-test.true c.x-item.is c.loop-x.invariant
    (sym c.if-not-enabled.ensures)

pub returns-then-not-enabled : goal.returns-then-not-enabled
returns-then-not-enabled c = (
  λ is. taken c.args.graph.now c.args.s c.args.lost.now c.args.by.now c.arcs_by-arcs.result.now c.arcs_by-arcs.ensures
      c.loop-x.x-index c.x-item.result c.loop-x-test.true c.x-item.is
      (apart_events c.args.by.now c.args.lost.now c.if-eq.ensures)
      (λ still. true≢false (sym still ∙ sym c.if-not-enabled.ensures)),
  λ takes. refl,
)

pub returns : goal.returns
returns c = (
  λ is. absurd (true≢false (sym is)),
  λ takes. absurd (not_taken c.args.graph.now c.args.s c.args.lost.now c.args.by.now c.arcs_by-arcs.result.now
      c.arcs_by-arcs.ensures c.loop-x.x-index c.loop-x-test.false c.loop-x.invariant takes),
)
