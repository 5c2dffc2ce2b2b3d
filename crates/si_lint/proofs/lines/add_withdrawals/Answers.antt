use Rattle.std.proofs.Common.{◌≡◌, ◌∙◌, ap, sym, subst, arith}
use Rattle.si_base.specs.Graph.{StateGraph}
use Rattle.si_base.specs.Proper.{Loss}
use Rattle.si_lint.specs.LintText.{loss_line}
use Rattle.si_told.specs.Loops.Lines.{LossIsWithin}
use Rattle.si_told.proofs.LineLemmas.{lines_none, lines_more, lines_all, printed_at, two_small}
use Rattle.si_lint.proofs.LineLemmas.{loss_as}
use Rattle.si_lint.proofs.lines.add_withdrawals.Goals as goal

pub loop-b-init : goal.loop-b-init
loop-b-init c = lines_none (loss_line c.args.word.now c.args.coded.now.graph.signals c.args.states.now)
    c.printed-first.result.now c.args.text.now

pub add_events_line-requires-clause-state : goal.add_events_line-requires-clause-state
add_events_line-requires-clause-state c =
    let is = printed_at (LossIsWithin c.args.coded.now.graph) c.args.found.now c.printed-first.result.now
    c.loop-b.b-index c.b-item.result c.requires.within c.printed-first.ensures c.loop-b-test.true c.b-item.is in
    omega (arith, is.0, c.requires.states, ap (λ (x : Loss). x.s) c.b.view_is)

pub add_events_line-requires-clause-events : goal.add_events_line-requires-clause-events
add_events_line-requires-clause-events c =
    let b = c.b-item.result in
    let is = printed_at (LossIsWithin c.args.coded.now.graph) c.args.found.now c.printed-first.result.now
    c.loop-b.b-index b c.requires.within c.printed-first.ensures c.loop-b-test.true c.b-item.is in
    let inside = subst (LossIsWithin c.args.coded.now.graph) (sym c.b.view_is) is in
    rw (c.signals-signals.ensures, c.graph.ensures.same)
    (two_small _ c.b.inside.lost c.b.inside.by inside.1 inside.2)

pub loop-b-preserved : goal.loop-b-preserved
loop-b-preserved c =
    let g = c.args.coded.now.graph in
    let b = c.b-item.result in
    let inside : Loss = record { s = c.b.inside.s; lost = c.b.inside.lost; by = c.b.inside.by } in
    let known : c.signals-signals.result.now ≡ g.signals =
    c.signals-signals.ensures ∙ ap (λ (h : StateGraph). h.signals) c.graph.ensures.same in
    lines_more (loss_line c.args.word.now g.signals c.args.states.now) c.printed-first.result.now c.loop-b.b-index b
    c.args.text.now c.loop-b.text _ c.loop-b-test.true c.b-item.is c.loop-b.invariant
    (loss_as c.args.word.now _ g.signals c.args.states.now inside b c.loop-b.text _ known c.b.view_is
    c.in_ok-add_events_line.ensures)

pub returns : goal.returns
returns c = lines_all (loss_line c.args.word.now c.args.coded.now.graph.signals c.args.states.now)
    c.printed-first.result.now c.loop-b.b-index c.args.found.now c.args.text.now c.loop-b.text c.loop-b-test.false
    c.printed-first.ensures c.loop-b.invariant
