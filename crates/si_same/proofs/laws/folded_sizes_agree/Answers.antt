use Rattle.si_same.proofs.FoldedSizes.{folded_sizes}
use Rattle.si_same.proofs.laws.folded_sizes_agree.Goals as goal

pub returns : goal.returns
returns c = folded_sizes
