use Rattle.si_fold.proofs.FoldedFewerArcs.{folded_no_larger}
use Rattle.si_fold.proofs.FoldedSmallest.{folded_smallest}
use Rattle.si_fold.proofs.laws.folded_graphs_are_no_larger.Goals as goal

pub returns : goal.returns
returns c = record { given = folded_no_larger; smallest = folded_smallest }
