use Rattle.std.proofs.Common.{◌≡◌, ◌∙◌, ℕ, List, arith}
use Rattle.si_base.specs.declared.ids.Event.{Event}
use Rattle.si_lint.specs.LintText.{one_way_line}
use Rattle.si_told.specs.Loops.Lines.{ArcIsWithin}
use Rattle.si_told.proofs.LineLemmas.{walks_none, walks_more, walks_all, printed_at}
use Rattle.si_lint.proofs.LineLemmas.{one_way_as, way_signals}
use Rattle.si_lint.proofs.lines.add_one_ways.Goals as goal

pub loop-arc-init : goal.loop-arc-init
loop-arc-init c = walks_none c.args.graph.now (one_way_line c.args.graph.now.signals c.args.states.now)
    c.printed-first.result.now c.args.text.now

pub way_to-requires-clause-state : goal.way_to-requires-clause-state
way_to-requires-clause-state c = (printed_at (ArcIsWithin c.args.graph.now) c.args.found.now
    c.printed-first.result.now c.loop-arc.arc-index c.arc-item.result c.requires.within c.printed-first.ensures
    c.loop-arc-test.true c.arc-item.is).0

pub add_one_way-requires-clause-from : goal.add_one_way-requires-clause-from
add_one_way-requires-clause-from c =
    let is = printed_at (ArcIsWithin c.args.graph.now) c.args.found.now c.printed-first.result.now
    c.loop-arc.arc-index c.arc-item.result c.requires.within c.printed-first.ensures c.loop-arc-test.true
    c.arc-item.is in
    omega (arith, is.0, c.requires.states)

pub add_one_way-requires-clause-sig : goal.add_one_way-requires-clause-sig
add_one_way-requires-clause-sig c =
    let is = printed_at (ArcIsWithin c.args.graph.now) c.args.found.now c.printed-first.result.now
    c.loop-arc.arc-index c.arc-item.result c.requires.within c.printed-first.ensures c.loop-arc-test.true
    c.arc-item.is in
    rw c.signals-signals.ensures is.1

pub add_one_way-requires-clause-to : goal.add_one_way-requires-clause-to
add_one_way-requires-clause-to c =
    let is = printed_at (ArcIsWithin c.args.graph.now) c.args.found.now c.printed-first.result.now
    c.loop-arc.arc-index c.arc-item.result c.requires.within c.printed-first.ensures c.loop-arc-test.true
    c.arc-item.is in
    omega (arith, is.2, c.requires.states)

pub add_one_way-requires-clause-walk : goal.add_one_way-requires-clause-walk
add_one_way-requires-clause-walk c =
    let g = c.args.graph.now in
    rw (c.as_slice.ensures.value, c.signals-signals.ensures)
    (way_signals g c.arc-item.result.from c.in_ok-walk.walk.items c.arcs-arcs.ensures.graph c.in_ok-walk.ensures)

pub loop-arc-preserved : goal.loop-arc-preserved
loop-arc-preserved c =
    let g = c.args.graph.now in
    let a = c.arc-item.result in
    let es = c.in_ok-walk.walk.items in
    let known : c.signals-signals.result.now ≡ g.signals =
    c.signals-signals.ensures in
    let is = printed_at (ArcIsWithin g) c.args.found.now c.printed-first.result.now
    c.loop-arc.arc-index a c.requires.within c.printed-first.ensures c.loop-arc-test.true c.arc-item.is in
    walks_more g (one_way_line g.signals c.args.states.now) c.printed-first.result.now c.loop-arc.arc-index a a.from es
    c.args.text.now c.loop-arc.text _ c.loop-arc-test.true c.arc-item.is is.0 c.in_ok-walk.ensures
    c.loop-arc.invariant
    (λ (walk : ℕ → List Event) (same : es ≡ walk a.from). one_way_as _ g.signals c.args.states.now a _ (walk a.from)
    c.loop-arc.text _ known (c.as_slice.ensures.value ∙ same) c.in_ok-add_one_way.ensures)

pub returns : goal.returns
returns c = walks_all c.args.graph.now (one_way_line c.args.graph.now.signals c.args.states.now)
    c.printed-first.result.now c.loop-arc.arc-index c.args.found.now c.args.text.now c.loop-arc.text
    c.loop-arc-test.false c.printed-first.ensures c.loop-arc.invariant
