use Rattle.std.proofs.Common.{◌+◌, ◌<◌, arith, length, subst, sym}
use Rattle.std.proofs.lemmas.Option.{IfSome_then}
use Rattle.si_candidates.specs.Blocks.{block_at}
use Rattle.si_conflicts.specs.Loops.Chains.{Chains}
use Rattle.si_resolve.specs.Loops.Counting.{AreLeft, AreTold, HaveTold, IsOwn}
use Rattle.si_resolve.proofs.CountingLemmas.{are_left, none_below, none_by_known}
use Rattle.si_resolve.proofs.SearchLemmas.{at_blocks, block_size, none_is, some_is}
use Rattle.si_resolve.proofs.counts.Counts.left_below.Goals as goal
use Rattle.si_resolve.proofs.counts.Counts.left_below.Goals.{After-below}

pub told_below-requires-clause-plus_size : goal.told_below-requires-clause-plus_size
told_below-requires-clause-plus_size c =
    let r = c.requires in
    let within : c.args.i < length c.args.list.now.blocks.items = omega (arith, r.order, r.within) in
    block_size c.args.graph.now c.args.list.now.blocks.items c.args.i _ r.list.are within c.block.ensures

pub told_below-requires-clause-minus_size : goal.told_below-requires-clause-minus_size
told_below-requires-clause-minus_size c =
    let r = c.requires in
    block_size c.args.graph.now c.args.list.now.blocks.items c.args.j _ r.list.are r.within c.block-2.ensures

pub returns-in_default-clause-none : goal.returns-in_default-clause-none
returns-in_default-clause-none c =
    let d = c.args.graph.now in
    let list = c.args.list.now in
    let i = c.args.i in
    let j = c.args.j in
    let r = c.requires in
    let counts = c.args.self.now in
    let i_in : i < length list.blocks.items = omega (arith, r.order, r.within) in
    let told : HaveTold d counts.chains.members (block_at list.blocks.items i) (block_at list.blocks.items j)
    c.saturating_sub-room.result =
    at_blocks (λ x y. HaveTold d counts.chains.members x y c.saturating_sub-room.result) _ _ _ _
    c.block.ensures c.block-2.ensures (none_is c.told_below.result c.in_default.is c.told_below.ensures.none) in
    none_by_known d list r.list i j i_in r.within r.first r.later counts.chains r.before.chains counts.own.items
    c.known.result c.known-2.result c.saturating_sub-room.result c.args.bar (r.before.each i i_in)
    (r.before.each j r.within) c.known.ensures c.known-2.ensures c.saturating_sub-room.ensures told

-- the parts together
all_left : (c : After-below) → AreLeft c.args.graph.now (block_at c.args.list.now.blocks.items c.args.i)
    (block_at c.args.list.now.blocks.items c.args.j)
    (c.in-Some.told + (c.in_ok-own.field-0 + c.in_ok-own-2.field-0))
all_left c =
    let d = c.args.graph.now in
    let list = c.args.list.now in
    let i = c.args.i in
    let j = c.args.j in
    let r = c.requires in
    let chains = c.args.self.now.chains in
    let i_in : i < length list.blocks.items = omega (arith, r.order, r.within) in
    let told : AreTold d chains.members (block_at list.blocks.items i) (block_at list.blocks.items j) c.in-Some.told =
    at_blocks (λ x y. AreTold d chains.members x y c.in-Some.told) _ _ _ _ c.block.ensures c.block-2.ensures
    (some_is _ c.told_below.result c.in-Some.told c.in-Some.is c.told_below.ensures.told) in
    let later : IsOwn d chains.members (block_at list.blocks.items j) c.in_ok-own-2.field-0 =
    subst (λ (x : Chains). IsOwn d x.members (block_at list.blocks.items j) c.in_ok-own-2.field-0)
    c.own.ensures.chains c.in_ok-own-2.ensures.own in
    are_left d list r.list i j i_in r.within r.first r.later chains r.before.chains c.in-Some.told
    c.in_ok-own.field-0 c.in_ok-own-2.field-0 told c.in_ok-own.ensures.own later

pub returns-clause-left : goal.returns-clause-left
returns-clause-left c =
    let left = all_left (goal.at.returns-clause-left c).After-below in
    let blocks = c.args.list.now.blocks.items in
    IfSome_then c.below.result c.below.ensures.some
    (λ n is. subst (AreLeft c.args.graph.now (block_at blocks c.args.i) (block_at blocks c.args.j)) (sym is.0) left)

pub returns-clause-none : goal.returns-clause-none
returns-clause-none c =
    let left = all_left (goal.at.returns-clause-none c).After-below in
    let list = c.args.list.now in
    let r = c.requires in
    let i_in : c.args.i < length list.blocks.items = omega (arith, r.order, r.within) in
    none_below c.args.graph.now list r.list c.args.i c.args.j i_in r.within r.first r.later c.args.self.now.chains
    r.before.chains c.below.result _ c.args.bar left c.below.ensures.none
