use Rattle.std.proofs.Common.{◌∙◌, ap, arith}
use Rattle.si_base.specs.Graph.{StateGraph}
use Rattle.si_pictures.proofs.InConflictMarks.{marks_all}
use Rattle.si_pictures.proofs.conflict_states.states_in_conflict.Goals as goal

pub returns : goal.returns
returns c =
    let d = c.args.graph.now in
    let states = c.states-k-end.ensures ∙ ap (λ (g : StateGraph). g.states) c.graph.ensures.same in
    let mixed = rw (c.as_slice.ensures.value, c.as_slice-2.ensures.value) at c.in_ok-mixed.ensures in
    let most = c.loop-k.invariant.most in
    let count = c.loop-k.invariant.count in
    marks_all d c.in_ok-keys.keys.items c.graph.ensures.coded c.in_ok-keys.ensures c.in_ok-chosen.chosen.items
    c.in_ok-chosen.ensures c.in_ok-mixed.mixed.items c.loop-k.marks.items mixed
    (omega (arith, states, most, count, c.loop-k-test.false))
    (λ s within. c.loop-k.invariant.each s (omega (arith, within, states, c.loop-k-test.false)))
