use Rattle.std.proofs.Common.{◌≡◌, ◌<◌, ◌==◌, ◌∙◌, not, ap, ap₂, sym}
use Rattle.std.proofs.Common.{subst, arith, true, Bool, List, length, set, length-set}
use Rattle.std.proofs.Common.{get_or}
use Rattle.std.proofs.lemmas.List.{get_or_default}
use Rattle.si_base.specs.Graph.{StateGraph}
use Rattle.si_conflicts.specs.declared.keys.Key.{Key}
use Rattle.si_conflicts.specs.Loops.Keys.{key_at}
use Rattle.si_pictures.proofs.InConflictMarks.{apart_from, same_from, mixed_more, mixed_pass}
use Rattle.si_pictures.proofs.conflict_states.mixed_codes.Goals as goal
use Rattle.si_pictures.proofs.conflict_states.mixed_codes.Goals.{then-ne, else-ne}

pub loop-k-preserved : goal.loop-k-preserved
loop-k-preserved c =
    let d = c.args.graph.now in
    let k = c.loop-k.k in
    let r = c.index-chosen-k.result in
    let states = c.states-states.ensures ∙ ap (λ (g : StateGraph). g.states) c.graph.ensures.same in
    let within : k < d.graph.states = omega (arith, c.loop-k-test.true, states) in
    let size = c.requires.chosen.count in
    let inside : k < length c.args.chosen.now = omega (arith, size, within) in
    let count = c.loop-k.invariant.count in
    let at : r ≡ get_or c.args.chosen.now k 0 = c.index-chosen-k.is ∙ get_or_default c.args.chosen.now k r 0 inside in
    let below : r < d.graph.states = subst (λ i. i < d.graph.states) (sym at) (c.requires.chosen.within k within) in
    let differ : c.ne.result ≡ not ((key_at c.args.keys.now k).excited == (key_at c.args.keys.now r).excited) =
    c.ne.ensures ∙ ap₂ (λ (x y : Key). not (x.excited == y.excited)) c.key_of.ensures c.key_of-in-loop-k.ensures in
    elim c.if-ne.branch [
      | then-ne w ↦ (
          let items : c.if-ne.mixed.items ≡ set c.loop-k.mixed.items r true =
          ap (λ v. v.items) w.mixed-is ∙ ap (λ i. set c.loop-k.mixed.items i true) c.r.view_is in
          record {
            most = omega (arith, within);
            count = ap (λ (l : List Bool). length l) items ∙ length-set c.loop-k.mixed.items r true ∙ count;
            each = rw items (mixed_more c.args.keys.now c.args.chosen.now k r d.graph.states c.loop-k.mixed.items inside
                at below count c.loop-k.invariant.each (apart_from _ _ c.ne.result differ w.if-ne.true));
          })
      | else-ne w ↦ (
          let items : c.if-ne.mixed.items ≡ c.loop-k.mixed.items = ap (λ v. v.items) w.mixed-is in
          record {
            most = omega (arith, within);
            count = ap (λ (l : List Bool). length l) items ∙ count;
            each = rw items (mixed_pass c.args.keys.now c.args.chosen.now k r d.graph.states c.loop-k.mixed.items inside
                at below count c.loop-k.invariant.each (same_from _ _ c.ne.result differ w.if-ne.false));
          })
    ]
