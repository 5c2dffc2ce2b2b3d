use Rattle.std.proofs.Common.{◌≡◌, ◌∙◌, ℕ, List, subst, sym, arith}
use Rattle.si_base.specs.declared.ids.Event.{Event}
use Rattle.si_base.specs.Proper.{Split}
use Rattle.si_breaches.specs.BreachText.{split_line}
use Rattle.si_breaches.specs.Loops.Lines.{SplitIsWithin}
use Rattle.si_breaches.proofs.BreachLines.{split_as, one_small, two_states, way_signals}
use Rattle.si_told.proofs.LineLemmas.{walks_none, walks_more, walks_all, printed_at}
use Rattle.si_breaches.proofs.breach_lines.add_splits.Goals as goal

pub loop-b-init : goal.loop-b-init
loop-b-init c = walks_none c.args.graph.now (split_line c.args.graph.now.signals c.args.states.now)
    c.printed-first.result.now c.args.text.now

pub way_to-requires-clause-state : goal.way_to-requires-clause-state
way_to-requires-clause-state c =
    let is = printed_at (SplitIsWithin c.args.graph.now) c.args.found.now c.printed-first.result.now c.loop-b.b-index
    c.b-item.result c.requires.within c.printed-first.ensures c.loop-b-test.true c.b-item.is in
    (subst (SplitIsWithin c.args.graph.now) (sym c.b.view_is) is).0

pub add_breach-requires-clause-state : goal.add_breach-requires-clause-state
add_breach-requires-clause-state c =
    let is = printed_at (SplitIsWithin c.args.graph.now) c.args.found.now c.printed-first.result.now c.loop-b.b-index
    c.b-item.result c.requires.within c.printed-first.ensures c.loop-b-test.true c.b-item.is in
    omega (arith, (subst (SplitIsWithin c.args.graph.now) (sym c.b.view_is) is).0, c.requires.states)

pub add_breach-requires-clause-events : goal.add_breach-requires-clause-events
add_breach-requires-clause-events c =
    let is = printed_at (SplitIsWithin c.args.graph.now) c.args.found.now c.printed-first.result.now c.loop-b.b-index
    c.b-item.result c.requires.within c.printed-first.ensures c.loop-b-test.true c.b-item.is in
    let inside = subst (SplitIsWithin c.args.graph.now) (sym c.b.view_is) is in
    rw c.signals-signals.ensures (one_small _ c.b.inside.e inside.1)

pub add_breach-requires-clause-ends : goal.add_breach-requires-clause-ends
add_breach-requires-clause-ends c =
    let is = printed_at (SplitIsWithin c.args.graph.now) c.args.found.now c.printed-first.result.now c.loop-b.b-index
    c.b-item.result c.requires.within c.printed-first.ensures c.loop-b-test.true c.b-item.is in
    let inside = subst (SplitIsWithin c.args.graph.now) (sym c.b.view_is) is in
    rw c.requires.states (two_states _ c.b.inside.t c.b.inside.u inside.2 inside.3)

pub add_breach-requires-clause-walk : goal.add_breach-requires-clause-walk
add_breach-requires-clause-walk c =
    let g = c.args.graph.now in
    rw (c.as_slice.ensures.value, c.signals-signals.ensures)
    (way_signals g c.b.inside.s c.in_ok-walk.walk.items c.arcs-arcs.ensures.graph c.in_ok-walk.ensures)

pub loop-b-preserved : goal.loop-b-preserved
loop-b-preserved c =
    let g = c.args.graph.now in
    let states = c.args.states.now in
    let b = c.b-item.result in
    let inside : Split = record { s = c.b.inside.s; e = c.b.inside.e; t = c.b.inside.t; u = c.b.inside.u } in
    let es = c.in_ok-walk.walk.items in
    let is = printed_at (SplitIsWithin g) c.args.found.now c.printed-first.result.now c.loop-b.b-index
    b c.requires.within c.printed-first.ensures c.loop-b-test.true c.b-item.is in
    let small = (subst (SplitIsWithin g) (sym c.b.view_is) is).0 in
    walks_more g (split_line g.signals states) c.printed-first.result.now c.loop-b.b-index b inside.s es
    c.args.text.now c.loop-b.text _ c.loop-b-test.true c.b-item.is small c.in_ok-walk.ensures c.loop-b.invariant
    (λ (walk : ℕ → List Event) (same : es ≡ walk inside.s). split_as _ g.signals states walk _ c.loop-b.text _
    c.signals-signals.ensures inside b c.b.view_is (c.as_slice.ensures.value ∙ same) c.in_ok-add_breach.ensures)

pub returns : goal.returns
returns c = walks_all c.args.graph.now (split_line c.args.graph.now.signals c.args.states.now)
    c.printed-first.result.now c.loop-b.b-index c.args.found.now c.args.text.now c.loop-b.text
    c.loop-b-test.false c.printed-first.ensures c.loop-b.invariant
