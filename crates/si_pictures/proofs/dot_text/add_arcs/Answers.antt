use Rattle.std.proofs.Common.{◌≤◌, ◌∙◌, ◌++◌, ℕ, List, length, ap, sym}
use Rattle.si_base.specs.Graph.{StateGraph}
use Rattle.si_pictures.specs.Seen.{graph_of}
use Rattle.si_pictures.specs.Writing.{statement_text}
use Rattle.si_pictures.proofs.PictureLemmas.{link_at, link_of}
use Rattle.si_pictures.proofs.WritingParts.{items_done, mapped_parts}
use Rattle.si_pictures.proofs.dot_text.add_arcs.Goals as goal

pub returns : goal.returns
returns c =
    let x = c.args.seen.now in
    let edges = c.arcs-arc-items.ensures.arcs ∙ ap (λ (g : StateGraph). g.edges) c.graph-graph.ensures in
    let all : length (graph_of x).edges ≤ c.loop-arc.arc-index = rw edges at c.loop-arc-test.false in
    items_done (link_at x) (graph_of x).edges c.loop-arc.arc-index c.loop-arc.text c.args.text.now all
    c.loop-arc.invariant
    ∙ ap (λ (t : List ℕ). c.args.text.now ++ t) (sym (mapped_parts statement_text (link_of x) (graph_of x).edges))
