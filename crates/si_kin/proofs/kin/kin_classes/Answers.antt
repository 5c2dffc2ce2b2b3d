use Rattle.std.proofs.Common.{◌≡◌, ◌∙◌, sym, ap, arith, length, List, ℕ}
use Rattle.std.proofs.lemmas.Bool.{true≢false}
use Rattle.std.proofs.lemmas.List.{with_items_is}
use Rattle.si_base.specs.Graph.{StateGraph}
use Rattle.si_kin.proofs.ClassLemmas.{all_joined, joined_along, none_joined, passed_by}
use Rattle.si_kin.proofs.kin.kin_classes.Goals as goal
use Rattle.si_kin.proofs.kin.kin_classes.Goals.{then-is_input, else-is_input}

pub loop-arc-init : goal.loop-arc-init
loop-arc-init c =
    let classes = c.in_ok-classes.classes.items in
    let count : length classes ≡ c.states.result = c.in_ok-classes.ensures.count in
    let states = c.states.ensures ∙ ap (λ (g : StateGraph). g.states) c.graph-graph.ensures.same in
    none_joined c.args.coded.now classes (count ∙ states)
    (λ s inside. c.in_ok-classes.ensures.own s (omega (arith, inside, count)))

pub loop-arc-preserved : goal.loop-arc-preserved
loop-arc-preserved c =
    let d = c.args.coded.now in
    let n = c.loop-arc.arc-index in
    let old = c.loop-arc.classes.items in
    let same = c.graph-graph.ensures.same in
    let arcs : c.arcs-arcs.result.now ≡ d.graph.edges =
    c.arcs-arcs.ensures.arcs ∙ ap (λ (g : StateGraph). g.edges) same in
    let inside = rw arcs at c.loop-arc-test.true in
    let at = rw arcs at c.arc-item.is in
    let tells = rw same at c.is_input.ensures in
    let so_far = c.loop-arc.invariant in
    elim c.if-is_input.branch [
      | then-is_input w ↦ (
          let joins = rw w.deref_mut.ensures.value at w.join.ensures in
          let count = w.join.ensures.size ∙ ap (λ (xs : List ℕ). length xs) w.deref_mut.ensures.value in
          let items =
          with_items_is c.loop-arc.classes w.join.new.parents (omega (arith, count, c.loop-arc.classes.ok)) in
          rw (w.classes-is, items)
          (joined_along d c.graph-graph.ensures.coded n c.arc-item.result old inside at so_far w.join.new.parents
          (tells.0 w.if-is_input.true) joins))
      | else-is_input w ↦ rw w.classes-is
          (passed_by d c.graph-graph.ensures.coded n c.arc-item.result old inside at so_far
          (λ input. true≢false (sym (tells.1 input) ∙ w.if-is_input.false)))
    ]

pub returns : goal.returns
returns c =
    let d = c.args.coded.now in
    let old = c.loop-arc.classes.items in
    let arcs : c.arcs-arcs.result.now ≡ d.graph.edges =
    c.arcs-arcs.ensures.arcs ∙ ap (λ (g : StateGraph). g.edges) c.graph-graph.ensures.same in
    let settled = rw c.deref_mut-2.ensures.value at c.settle.ensures in
    let count = c.settle.ensures.size ∙ ap (λ (xs : List ℕ). length xs) c.deref_mut-2.ensures.value in
    let items = with_items_is c.loop-arc.classes c.settle.new.parents (omega (arith, count, c.loop-arc.classes.ok)) in
    rw items (all_joined d c.loop-arc.arc-index old c.settle.new.parents (rw arcs at c.loop-arc-test.false)
    c.loop-arc.invariant settled)
