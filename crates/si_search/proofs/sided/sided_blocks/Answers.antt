use Rattle.std.proofs.Common.{All, subst, sym}
use Rattle.si_resolve.proofs.BlockSizes.{HasSize, block_sizes}
use Rattle.si_search.proofs.sided.sided_blocks.Goals as goal

pub which_may_switch-requires : goal.which_may_switch-requires
which_may_switch-requires c =
    let d = c.args.graph.now in
    subst (All (HasSize d.graph.states)) (sym c.deref.ensures.value)
    (block_sizes d c.in_ok-list.list.items c.in_ok-list.ensures)
