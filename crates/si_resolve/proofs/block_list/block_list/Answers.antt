use Rattle.std.proofs.Common.{All, Bool, List, subst, sym}
use Rattle.si_base.specs.Codes.{CodedGraph}
use Rattle.si_conflicts.specs.Conflicts.{AreFirstConflicts, pairs_of}
use Rattle.si_resolve.specs.Loops.Aspects.{max_compared}
use Rattle.si_resolve.specs.Loops.Usable.{HaveSides}
use Rattle.si_resolve.proofs.BlockListLemmas.{given_inside}
use Rattle.si_resolve.proofs.BlockSizes.{HasSize, block_sizes}
use Rattle.si_resolve.proofs.block_list.block_list.Goals as goal

pub usable_ones-requires : goal.usable_ones-requires
usable_ones-requires c =
    let d = c.args.graph.now in
    subst (All (HasSize d.graph.states)) (sym c.deref.ensures.value)
    (block_sizes d c.in_ok-blocks.blocks.items c.in_ok-blocks.ensures)

pub sides_of_usable-requires-clause-sizes : goal.sides_of_usable-requires-clause-sizes
sides_of_usable-requires-clause-sizes c =
    let d = c.args.graph.now in
    subst (All (HasSize d.graph.states)) (sym c.deref-3.ensures.value)
    (block_sizes d c.in_ok-blocks.blocks.items c.in_ok-blocks.ensures)

pub columns_of_usable-requires-clause-sizes : goal.columns_of_usable-requires-clause-sizes
columns_of_usable-requires-clause-sizes c =
    let d = c.args.graph.now in
    let blocks = c.in_ok-blocks.blocks.items in
    let usable = c.in_ok-usable.usable.items in
    let sides = c.in_ok-sides.sides.items in
    let pairs = c.in_ok-pairs.pairs.items in
    let have : HaveSides d.graph blocks usable sides =
    subst (λ (x : List (List Bool)). HaveSides d.graph x usable sides) c.deref-3.ensures.value
    (subst (λ (x : List Bool). HaveSides d.graph c.deref-3.result.now x sides) c.deref-4.ensures.value
    c.in_ok-sides.ensures) in
    let are : AreFirstConflicts d max_compared (pairs_of pairs) =
    subst (λ (x : CodedGraph). AreFirstConflicts x max_compared (pairs_of pairs)) c.coded-2.ensures.same
    c.in_ok-pairs.ensures in
    given_inside d blocks usable sides max_compared pairs c.in_ok-blocks.ensures have are
    c.deref-5.result.now c.deref-6.result.now c.deref-7.result.now c.deref-8.result.now
    c.deref-5.ensures.value c.deref-6.ensures.value c.deref-7.ensures.value c.deref-8.ensures.value

pub crowds_of-requires-clause-sizes : goal.crowds_of-requires-clause-sizes
crowds_of-requires-clause-sizes c =
    let d = c.args.graph.now in
    subst (All (HasSize d.graph.states)) (sym c.deref-9.ensures.value)
    (block_sizes d c.in_ok-blocks.blocks.items c.in_ok-blocks.ensures)
