use Rattle.std.proofs.Common.{◌≡◌, ◌<◌, ◌∙◌, ℕ, Bool, List, Option, [], None, IfSome, length, arith, ap, subst}
use Rattle.std.proofs.lemmas.List.{get_or_default, length_push}
use Rattle.std.proofs.lemmas.List.Elements.{All-get_or}
use Rattle.si_candidates.specs.Blocks.{block_at}
use Rattle.si_conflicts.specs.declared.crowds.Crowd.{Crowd}
use Rattle.si_conflicts.specs.Loops.Crowds.{HasOfCrowd}
use Rattle.si_resolve.proofs.BlockListLemmas.{crowd_of_set, crowded_inside, each_more}
use Rattle.si_resolve.proofs.BlockSizes.{HasSize}
use Rattle.si_resolve.proofs.block_list.crowds_of.Goals as goal

pub crowd_in-requires : goal.crowd_in-requires
crowd_in-requires c =
    let d = c.args.graph.now in
    let blocks = c.args.blocks.now in
    let k = c.loop-k.k in
    let inside : k < length blocks = omega (arith, c.loop-k-test.true) in
    let size : length c.set.result.now ≡ d.graph.states =
    ap (length {A = Bool}) (c.set.ensures ∙ c.index-blocks-k.is)
    ∙ All-get_or (HasSize d.graph.states) blocks k c.index-blocks-k.result inside c.requires.sizes in
    crowded_inside d c.args.chains.now c.args.least c.deref.result.now c.set.result.now c.requires.chains
    (c.deref.ensures.value ∙ c.in_ok-crowded.ensures) size

pub loop-k-preserved : goal.loop-k-preserved
loop-k-preserved c =
    let members = c.args.chains.now.members in
    let blocks = c.args.blocks.now in
    let items = c.loop-k.crowds.items in
    let k = c.loop-k.k in
    let new = c.crowd_in.result in
    let inside : k < length blocks = omega (arith, c.loop-k-test.true) in
    let set_is : c.set.result.now ≡ block_at blocks k =
    c.set.ensures ∙ c.index-blocks-k.is ∙ get_or_default blocks k c.index-blocks-k.result [] inside in
    let Holds : ℕ → Option Crowd → Type 0 = λ j o. IfSome o (HasOfCrowd members (block_at blocks j)) in
    let last : Holds k new =
    subst (λ (set : List Bool). IfSome new (HasOfCrowd members set)) set_is
    (crowd_of_set members c.args.least c.set.result.now c.deref.result.now new
    (c.deref.ensures.value ∙ c.in_ok-crowded.ensures) c.crowd_in.ensures.some) in
    rw c.in_ok-push.ensures.items (record {
      count = omega (arith, c.loop-k.invariant.count, length_push items new);
      each = each_more None Holds items new k c.loop-k.invariant.count c.loop-k.invariant.each last;
    })
