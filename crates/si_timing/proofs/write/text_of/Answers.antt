use Rattle.std.proofs.Common.{List, All, sym, subst, ◌∙◌}
use Rattle.si_base.specs.Graph.{IsNonInput}
use Rattle.si_loops.specs.declared.arcs.Arc.{Arc}
use Rattle.si_timing.proofs.Writing.{cut_ends, text_by_calls}
use Rattle.si_timing.proofs.write.text_of.Goals as goal

pub add_cuts-requires : goal.add_cuts-requires
add_cuts-requires c =
    let n = c.args.netlist.now in
    let ends = cut_ends n _ _ _ (c.as_slice.ensures.value ∙ c.in_ok-arcs.ensures.arcs) c.in_ok-split.ensures in
    subst (λ (cut : List Arc). All (λ a. IsNonInput n.signals a.to) cut) (sym c.as_slice-2.ensures.value) ends

pub returns : goal.returns
returns c = text_by_calls c.args.library.now c.args.netlist.now _ _ _ _ _ _
    (c.as_slice.ensures.value ∙ c.in_ok-arcs.ensures.arcs) c.in_ok-split.ensures c.in_ok-text.ensures
    (rw c.as_slice-2.ensures.value at c.in_ok-add_cuts.ensures) c.in_ok-add_feedbacks.ensures
