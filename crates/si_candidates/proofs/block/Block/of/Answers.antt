use Rattle.std.proofs.Common.{◌∙◌, false, replicate}
use Rattle.std.proofs.lemmas.List.{length-replicate}
use Rattle.si_graph.proofs.SearchLemmas.{in_none}
use Rattle.si_candidates.proofs.BlockStates.{union_same}
use Rattle.si_candidates.proofs.block.Block.of.Goals as goal

pub returns : goal.returns
returns c =
    let set = c.args.set.now in
    union_same (replicate c.size.result false) set c.union_with.new.self (in_none c.size.result)
    (length-replicate c.size.result false ∙ c.size.ensures) (rw c.in_ok-copy.ensures at c.union_with.ensures)
