use Rattle.std.proofs.Common.{◌<◌, ◌≤◌, ◌∙◌, ◌++◌, ℕ, List, ap, arith, sym}
use Rattle.si_base.specs.Graph.{StateGraph}
use Rattle.si_pictures.specs.CodeWord.{first}
use Rattle.si_pictures.specs.Seen.{graph_of}
use Rattle.si_pictures.specs.Writing.{statement_text}
use Rattle.si_pictures.proofs.PictureLemmas.{node_at, node_of}
use Rattle.si_pictures.proofs.WritingParts.{part_more, parts_done, mapped_parts}
use Rattle.si_pictures.proofs.dot_text.add_states.Goals as goal

pub loop-k-preserved : goal.loop-k-preserved
loop-k-preserved c =
    let x = c.args.seen.now in
    let states = c.states-k-end.ensures ∙ ap (λ (g : StateGraph). g.states) c.graph.ensures in
    let within : c.loop-k.k < (graph_of x).states = omega (arith, c.loop-k-test.true, states) in
    part_more (node_at x c.args.states.now c.args.marks.now) (graph_of x).states c.loop-k.k _ c.loop-k.text
    c.add_state.new.text within c.loop-k.invariant c.in_ok-add_state.ensures

pub returns : goal.returns
returns c =
    let x = c.args.seen.now in
    let states = c.states-k-end.ensures ∙ ap (λ (g : StateGraph). g.states) c.graph.ensures in
    let all : (graph_of x).states ≤ c.loop-k.k = omega (arith, c.loop-k-test.false, states) in
    parts_done (node_at x c.args.states.now c.args.marks.now) (graph_of x).states c.loop-k.k c.loop-k.text
    c.args.text.now all c.loop-k.invariant
    ∙ ap (λ (t : List ℕ). c.args.text.now ++ t) (sym (mapped_parts statement_text
    (node_of x c.args.states.now c.args.marks.now) (first (graph_of x).states)))
