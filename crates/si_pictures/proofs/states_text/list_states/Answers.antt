use Rattle.std.proofs.Common.{◌<◌, ◌≤◌, ◌∙◌, ap, arith}
use Rattle.si_base.specs.Graph.{StateGraph}
use Rattle.si_pictures.specs.Seen.{graph_of}
use Rattle.si_pictures.specs.StatesText.{states_text}
use Rattle.si_pictures.proofs.CodeLemmas.{line_at, signals_line}
use Rattle.si_pictures.proofs.WritingParts.{part_more, parts_done}
use Rattle.si_pictures.proofs.states_text.list_states.Goals as goal

pub loop-k-preserved : goal.loop-k-preserved
loop-k-preserved c =
    let x = c.args.seen.now in
    let states = c.states-k-end.ensures ∙ ap (λ (g : StateGraph). g.states) c.graph-2.ensures in
    let within : c.loop-k.k < (graph_of x).states = omega (arith, c.loop-k-test.true, states) in
    part_more (line_at x c.args.states.now) (graph_of x).states c.loop-k.k _ c.loop-k.text c.add_state.new.text within
    c.loop-k.invariant c.in_ok-add_state.ensures

pub returns : goal.returns
unfolding states_text
returns c =
    let x = c.args.seen.now in
    let states = c.states-k-end.ensures ∙ ap (λ (g : StateGraph). g.states) c.graph-2.ensures in
    let all : (graph_of x).states ≤ c.loop-k.k = omega (arith, c.loop-k-test.false, states) in
    parts_done (line_at x c.args.states.now) (graph_of x).states c.loop-k.k c.loop-k.text (signals_line x) all
    c.loop-k.invariant
