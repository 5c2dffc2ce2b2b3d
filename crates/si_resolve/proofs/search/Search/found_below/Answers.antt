use Rattle.std.proofs.Common.{subst}
use Rattle.si_candidates.specs.Blocks.{block_at}
use Rattle.si_resolve.specs.Loops.Progress.{LeavesNoneBelow}
use Rattle.si_resolve.proofs.SearchLemmas.{none_is}
use Rattle.si_resolve.proofs.search.Search.found_below.Goals as goal

pub returns-in_default-clause-none : goal.returns-in_default-clause-none
returns-in_default-clause-none c =
    let blocks = c.args.list.now.blocks.items in
    subst (LeavesNoneBelow c.args.graph.now (block_at blocks c.args.i) (block_at blocks c.args.j)) c.bar-bar.ensures
    (none_is c.in_ok-left.left c.in_default.is c.in_ok-left.ensures.none)
