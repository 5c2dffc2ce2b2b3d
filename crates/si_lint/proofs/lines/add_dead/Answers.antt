use Rattle.si_lint.proofs.LineLemmas.{way_signals}
use Rattle.std.proofs.Common.{◌≡◌, ◌<◌, ◌∙◌, ℕ, List, arith, codes}
use Rattle.si_base.specs.declared.ids.Event.{Event}
use Rattle.si_explain.proofs.EventLemmas.{events_line_as}
use Rattle.si_lint.specs.LintText.{dead_line}
use Rattle.si_told.proofs.LineLemmas.{walks_none, walks_more, walks_all, printed_at}
use Rattle.si_lint.proofs.lines.add_dead.Goals as goal

pub loop-s-init : goal.loop-s-init
loop-s-init c = walks_none c.args.graph.now (dead_line c.args.graph.now.signals c.args.states.now)
    c.printed-first.result.now c.args.text.now

pub way_to-requires-clause-state : goal.way_to-requires-clause-state
way_to-requires-clause-state c = printed_at (λ (s : ℕ). s < c.args.graph.now.states) c.args.found.now
    c.printed-first.result.now c.loop-s.s-index c.s-item.result c.requires.within c.printed-first.ensures
    c.loop-s-test.true c.s-item.is

pub add_events_line-requires-clause-state : goal.add_events_line-requires-clause-state
add_events_line-requires-clause-state c =
    let small = printed_at (λ (s : ℕ). s < c.args.graph.now.states) c.args.found.now
    c.printed-first.result.now c.loop-s.s-index c.s-item.result c.requires.within c.printed-first.ensures
    c.loop-s-test.true c.s-item.is in
    omega (arith, small, c.requires.states)

pub add_events_line-requires-clause-events : goal.add_events_line-requires-clause-events
add_events_line-requires-clause-events c =
    let g = c.args.graph.now in
    rw (c.as_slice.ensures.value, c.signals-signals.ensures)
    (way_signals g c.s-item.result c.in_ok-walk.walk.items c.arcs-arcs.ensures.graph c.in_ok-walk.ensures)

pub loop-s-preserved : goal.loop-s-preserved
loop-s-preserved c =
    let g = c.args.graph.now in
    let s = c.s-item.result in
    let es = c.in_ok-walk.walk.items in
    let known : c.signals-signals.result.now ≡ g.signals =
    c.signals-signals.ensures in
    let small = printed_at (λ (t : ℕ). t < g.states) c.args.found.now c.printed-first.result.now
    c.loop-s.s-index s c.requires.within c.printed-first.ensures c.loop-s-test.true c.s-item.is in
    walks_more g (dead_line g.signals c.args.states.now) c.printed-first.result.now c.loop-s.s-index s s es
    c.args.text.now c.loop-s.text _ c.loop-s-test.true c.s-item.is small c.in_ok-walk.ensures c.loop-s.invariant
    (λ (walk : ℕ → List Event) (same : es ≡ walk s). events_line_as (codes "dead") _ g.signals c.args.states.now s _
    (walk s) c.loop-s.text _ known (c.as_slice.ensures.value ∙ same) c.in_ok-add_events_line.ensures)

pub returns : goal.returns
returns c = walks_all c.args.graph.now (dead_line c.args.graph.now.signals c.args.states.now)
    c.printed-first.result.now c.loop-s.s-index c.args.found.now c.args.text.now c.loop-s.text c.loop-s-test.false
    c.printed-first.ensures c.loop-s.invariant
