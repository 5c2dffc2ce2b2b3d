use Rattle.std.proofs.Common.{◌≡◌, ◌∙◌, ap, arith}
use Rattle.si_base.specs.Graph.{StateGraph}
use Rattle.si_walks.specs.declared.arcs.Arcs.TheVariants.{OfInputs}
use Rattle.si_walks.specs.Joined.{source_of}
use Rattle.si_walks.proofs.SourceLemmas.{begins_within}
use Rattle.si_explain.proofs.EventLemmas.{walk_signals, inputs_line_as}
use Rattle.si_explain.proofs.ExplainLines.{source_by_calls}
use Rattle.si_explain.proofs.explain.add_source.Goals as goal

pub add_inputs_line-requires-clause-s : goal.add_inputs_line-requires-clause-s
add_inputs_line-requires-clause-s c =
    let g = c.args.coded.now.graph in
    let is = rw c.in-Some.is at c.requires.source in
    let found = c.in-Some.found in
    let within =
    begins_within g OfInputs found.source found.first.items c.args.p c.graph.ensures.coded.graph_is c.requires.p
    is.first.holds in
    omega (arith, within, c.requires.states)

pub add_inputs_line-requires-clause-events : goal.add_inputs_line-requires-clause-events
add_inputs_line-requires-clause-events c =
    let g = c.args.coded.now.graph in
    let is = rw c.in-Some.is at c.requires.source in
    let found = c.in-Some.found in
    rw (c.as_slice.ensures.value, c.signals-signals.ensures, c.graph.ensures.same) (walk_signals g OfInputs found.source
    found.first.items c.args.p c.graph.ensures.coded.graph_is is.first.holds)

pub add_inputs_line-requires-2-clause-s : goal.add_inputs_line-requires-2-clause-s
add_inputs_line-requires-2-clause-s c =
    let g = c.args.coded.now.graph in
    let is = rw c.in-Some.is at c.requires.source in
    let found = c.in-Some.found in
    let within =
    begins_within g OfInputs found.source found.first.items c.args.p c.graph.ensures.coded.graph_is c.requires.p
    is.first.holds in
    omega (arith, within, c.requires.states)

pub add_inputs_line-requires-2-clause-events : goal.add_inputs_line-requires-2-clause-events
add_inputs_line-requires-2-clause-events c =
    let g = c.args.coded.now.graph in
    let is = rw c.in-Some.is at c.requires.source in
    let found = c.in-Some.found in
    rw (c.as_slice-2.ensures.value, c.signals-signals.ensures, c.graph.ensures.same) (walk_signals g OfInputs
    found.source found.second.items c.args.q c.graph.ensures.coded.graph_is is.second.holds)

pub returns : goal.returns
returns c =
    let g = c.args.coded.now.graph in
    let found = c.in-Some.found in
    let states = c.args.states.now in
    let signals : c.signals-signals.result.now ≡ g.signals =
    c.signals-signals.ensures ∙ ap (λ (h : StateGraph). h.signals) c.graph.ensures.same in
    let first = inputs_line_as _ g.signals states found.source c.args.p _ found.first.items _ _ signals
    c.as_slice.ensures.value c.in_ok-add_inputs_line.ensures in
    let second = inputs_line_as _ g.signals states found.source c.args.q _ found.second.items _ _ signals
    c.as_slice-2.ensures.value c.in_ok-add_inputs_line-2.ensures in
    rw c.in-Some.is (source_by_calls c.args.text.now g.signals states c.args.p c.args.q (source_of found) _ _ _ _ _
    c.name_at.ensures c.name_at-2.ensures first second c.in_ok-add_line.ensures)
