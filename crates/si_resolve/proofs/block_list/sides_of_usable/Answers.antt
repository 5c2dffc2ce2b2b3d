use Rattle.std.proofs.Common.{◌≡◌, ◌<◌, ◌∙◌, ℕ, List, Bool, [], false, true, length, slice_index_or, subst, arith}
use Rattle.std.proofs.lemmas.List.{get_or_default, length_push}
use Rattle.si_candidates.specs.Blocks.{block_at}
use Rattle.si_candidates.specs.Loops.Sides.{AreSides}
use Rattle.si_resolve.proofs.BlockListLemmas.{each_more}
use Rattle.si_resolve.proofs.block_list.sides_of_usable.Goals as goal

pub loop-k-preserved : goal.loop-k-preserved
loop-k-preserved c =
    let g = c.args.graph.now.graph in
    let tree = c.args.tree.now in
    let blocks = c.args.blocks.now in
    let usable = c.args.usable.now in
    let items = c.loop-k.list.items in
    let k = c.loop-k.k in
    let new = c.in_ok-sides_if.field-0 in
    let inside : k < length blocks = omega (arith, c.loop-k-test.true) in
    let at_k : c.index-blocks-k.result ≡ block_at blocks k =
    c.index-blocks-k.is ∙ get_or_default blocks k c.index-blocks-k.result [] inside in
    let Holds : ℕ → List Bool → Type 0 =
    λ j x. slice_index_or usable j false ≡ true → AreSides g tree (block_at blocks j) x in
    let last : Holds k new =
    λ on. subst (λ (b : List Bool). AreSides g tree b new) at_k (c.in_ok-sides_if.ensures on) in
    rw c.in_ok-push.ensures.items (record {
      count = omega (arith, c.loop-k.invariant.count, length_push items new);
      each = each_more [] Holds items new k c.loop-k.invariant.count c.loop-k.invariant.each last;
    })
