use Rattle.si_candidates.proofs.BlocksExist.{some_blocks}
use Rattle.si_resolve.proofs.EndsExist as proved
use Rattle.si_resolve.proofs.ends.resolving_ends.Goals as goal

pub returns : goal.returns
returns c = proved.resolving_ends some_blocks
