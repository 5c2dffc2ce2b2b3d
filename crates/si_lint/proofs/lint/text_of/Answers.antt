use Rattle.std.proofs.Common.{◌<◌, ◌∙◌, ap, arith}
use Rattle.si_base.specs.Graph.{StateGraph}
use Rattle.si_base.specs.Proper.{loss_place, pair_place}
use Rattle.si_carried.specs.Lint.{IsDeadState, IsOneWay, IsChoice, IsDisabling, IsSameCode}
use Rattle.si_told.specs.All.{number_place, arc_place}
use Rattle.si_lint.specs.Findings.{IsMerged, merged_place, IsUnresolvable}
use Rattle.si_lint.specs.Loops.Lines.{findings_of}
use Rattle.si_told.specs.Loops.Lines.{ArcIsWithin, LossIsWithin}
use Rattle.si_told.proofs.Alls.{all_hold}
use Rattle.si_lint.proofs.TextLemmas.{arc_is_within, loss_is_within, same_is_within, merged_is_within}
use Rattle.si_lint.proofs.TextLemmas.{unresolvable_is_within, text_by_calls}
use Rattle.si_lint.proofs.lint.text_of.Goals as goal

pub last_arcs-requires : goal.last_arcs-requires
last_arcs-requires c = rw c.graph-graph.ensures.same c.graph-graph.ensures.coded.connected

pub add_dead-requires-clause-within : goal.add_dead-requires-clause-within
add_dead-requires-clause-within c =
    let g = c.args.coded.now.graph in
    rw (c.graph-graph.ensures.same, c.deref-3.ensures.value) (all_hold number_place (IsDeadState g) (λ s. s < g.states)
    _ c.requires.found.dead (λ s dead. dead.within))

pub add_one_ways-requires-clause-within : goal.add_one_ways-requires-clause-within
add_one_ways-requires-clause-within c =
    let g = c.args.coded.now.graph in
    rw (c.graph-graph.ensures.same, c.deref-5.ensures.value) (all_hold arc_place (IsOneWay g) (ArcIsWithin g) _
    c.requires.found.one_way (arc_is_within g c.graph-graph.ensures.coded.graph_is))

pub add_withdrawals-requires-clause-within : goal.add_withdrawals-requires-clause-within
add_withdrawals-requires-clause-within c =
    let g = c.args.coded.now.graph in
    rw c.deref-6.ensures.value (all_hold loss_place (IsChoice g) (LossIsWithin g) _ c.requires.found.choices
    (λ b is. loss_is_within g c.graph-graph.ensures.coded.graph_is b is.withdraws))

pub add_withdrawals-requires-2-clause-within : goal.add_withdrawals-requires-2-clause-within
add_withdrawals-requires-2-clause-within c =
    let g = c.args.coded.now.graph in
    rw c.deref-7.ensures.value (all_hold loss_place (IsDisabling g) (LossIsWithin g) _ c.requires.found.disablings
    (λ b is. loss_is_within g c.graph-graph.ensures.coded.graph_is b is.withdraws))

pub add_pairs-requires : goal.add_pairs-requires
add_pairs-requires c =
    let d = c.args.coded.now in
    rw c.deref-8.ensures.value (all_hold pair_place (IsSameCode d) _ _ c.requires.found.same_codes
    (same_is_within d _ c.requires.states))

pub add_pairs-requires-2 : goal.add_pairs-requires-2
add_pairs-requires-2 c =
    let d = c.args.coded.now in
    rw c.deref-9.ensures.value (all_hold merged_place (IsMerged d) _ _ c.requires.found.merged
    (merged_is_within d _ c.requires.states))

pub add_pairs-requires-3 : goal.add_pairs-requires-3
add_pairs-requires-3 c =
    let d = c.args.coded.now in
    rw c.deref-10.ensures.value (all_hold pair_place (IsUnresolvable d) _ _ c.requires.found.unresolvable
    (unresolvable_is_within d _ c.requires.states))

pub returns : goal.returns
returns c =
    let d = c.args.coded.now in
    let f = findings_of c.args.found.now in
    let same = c.graph-graph.ensures.same in
    let known = c.signals.ensures ∙ ap (λ (g : StateGraph). g.signals) same in
    text_by_calls d c.args.states.now c.args.dropped.now f _ _ _ _ _ _ _ _ _ _ _ _ _ c.graph-graph.ensures.coded
    c.requires.found known (omega (arith, c.from.ensures, c.count.ensures, c.len.ensures.len))
    c.in_ok-text.ensures c.in_ok-add_told.ensures c.in_ok-add_dropped.ensures
    (rw c.deref.ensures.value at c.in_ok-add_unused.ensures)
    (rw (same, c.deref-3.ensures.value) at c.in_ok-add_dead.ensures)
    (rw (same, c.deref-5.ensures.value) at c.in_ok-add_one_ways.ensures)
    (rw c.deref-6.ensures.value at c.in_ok-add_withdrawals.ensures)
    (rw c.deref-7.ensures.value at c.in_ok-add_withdrawals-2.ensures)
    (rw c.deref-8.ensures.value at c.in_ok-add_pairs.ensures)
    (rw c.deref-9.ensures.value at c.in_ok-add_pairs-2.ensures)
    (rw c.deref-10.ensures.value at c.in_ok-add_pairs-3.ensures)
