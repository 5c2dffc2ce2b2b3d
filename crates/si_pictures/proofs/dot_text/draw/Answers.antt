use Rattle.std.proofs.Common.{ap, ◌∙◌}
use Rattle.si_base.specs.Graph.{StateGraph}
use Rattle.si_pictures.proofs.PictureLemmas.{picture_by_calls}
use Rattle.si_pictures.proofs.dot_text.draw.Goals as goal

pub returns : goal.returns
returns c =
    let signals = c.signals.ensures ∙ ap (λ (g : StateGraph). g.signals) c.graph.ensures in
    picture_by_calls c.args.model.now c.args.states.now c.args.seen.now c.in_ok-marks.marks.items _
    c.in_ok-marks.ensures c.in_ok-pairs.ensures _ _ _ _ _ _ c.in_ok-text.ensures
    (rw signals at c.in_ok-add_title.ensures) (rw c.as_slice.ensures.value at c.in_ok-add_states.ensures)
    c.in_ok-add_arcs.ensures (rw c.as_slice-2.ensures.value at c.in_ok-add_lines.ensures) c.in_ok-add.ensures.added
