use Rattle.std.proofs.Common.{◌≡◌, ◌↔◌, ◌<◌, ◌∙◌, Bool, true, [], length, ap, sym, subst, arith}
use Rattle.std.proofs.lemmas.List.{length_push}
use Rattle.si_base.specs.Graph.{StateGraph}
use Rattle.si_base.specs.Codes.{CodedGraph, IsDeterministic}
use Rattle.si_base.specs.Sets.{IsIn}
use Rattle.si_candidates.specs.Blocks.{block_at}
use Rattle.si_candidates.specs.Blocking.{MaySwitch}
use Rattle.si_candidates.proofs.MaySwitchWords.{told_in_lists, told_more}
use Rattle.si_candidates.proofs.may_switch.which_may_switch.Goals as goal

pub which_sets_may_switch-requires-clause-deterministic : goal.which_sets_may_switch-requires-clause-deterministic
which_sets_may_switch-requires-clause-deterministic c =
    subst (λ (h : StateGraph). IsDeterministic h) (sym c.graph-g.ensures.same) c.graph-g.ensures.coded.deterministic

pub loop-k-preserved : goal.loop-k-preserved
loop-k-preserved c =
    let g = c.args.graph.now.graph in
    let blocks = c.args.blocks.now in
    let lists = c.in_ok-lists.lists.items in
    let sets = c.in_ok-sets.sets.items in
    let k = c.loop-k.k in
    let flag = c.has_bit.result in
    let may = c.loop-k.may.items in
    let pushed = c.in_ok-push.ensures.items in
    let same = c.graph-g.ensures.same ∙ ap (λ (d : CodedGraph). d.graph) c.coded.ensures.same in
    let states = c.states.ensures ∙ ap (λ (h : StateGraph). h.states) same in
    let inside : k < length blocks = omega (arith, c.loop-k-test.true) in
    let tells = rw (c.as_slice.ensures.value, same) at c.in_ok-sets.ensures in
    let told = told_in_lists c.states.result blocks g lists sets k c.index.result.now inside
    (c.requires k [] inside ∙ sym states) c.in_ok-lists.ensures tells c.index.ensures in
    let Says : Bool → Type 0 = λ b. (b ≡ true) ↔ MaySwitch g (IsIn (block_at blocks k)) in
    record {
      size = omega (arith, ap length pushed, length_push may flag, c.loop-k.invariant.size);
      told = rw pushed (told_more g blocks may flag k c.loop-k.invariant.size
          (subst Says (sym c.has_bit.ensures) told) c.loop-k.invariant.told);
    }
