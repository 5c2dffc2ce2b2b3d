use Rattle.std.proofs.Common.{◌==◌, ◌∙◌, ap}
use Rattle.si_base.specs.Graph.{StateGraph}
use Rattle.si_words.proofs.WritingLemmas.{left_as}
use Rattle.si_pictures.proofs.PictureLemmas.{node_by_calls}
use Rattle.si_pictures.proofs.dot_text.add_state.Goals as goal

pub returns : goal.returns
returns c =
    let start = c.eq.ensures ∙ ap (λ t. c.args.s == t) (c.start.ensures
    ∙ ap (λ (g : StateGraph). g.start) c.graph.ensures) in
    left_as _ _ _ _ (node_by_calls c.args.seen.now c.args.states.now c.args.s c.eq.result c.args.marked c.args.text.now
    _ _ _ _ _ _ start c.in_ok-add.ensures.added c.in_ok-add_number.ensures c.in_ok-add-2.ensures.added
    c.in_ok-add_state_label.ensures c.in_ok-add_attribute_if.ensures c.in_ok-add_attribute_if-2.ensures)
    c.add-3.ensures.added
