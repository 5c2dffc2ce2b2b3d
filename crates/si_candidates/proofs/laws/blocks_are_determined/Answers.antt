use Rattle.si_candidates.proofs.IntervalLemmas.{one_interval}
use Rattle.si_candidates.proofs.IntervalsExist.{some_interval}
use Rattle.si_candidates.proofs.BlocksExist.{one_blocks, some_blocks}
use Rattle.si_candidates.proofs.laws.blocks_are_determined.Goals as goal

pub returns-clause-intervals_unique : goal.returns-clause-intervals_unique
returns-clause-intervals_unique c = λ g from stop. one_interval g stop from

pub returns-clause-intervals_exist : goal.returns-clause-intervals_exist
returns-clause-intervals_exist c = λ g from stop is. some_interval g stop is from

pub returns-clause-blocks_unique : goal.returns-clause-blocks_unique
returns-clause-blocks_unique c = one_blocks

pub returns-clause-blocks_exist : goal.returns-clause-blocks_exist
returns-clause-blocks_exist c = some_blocks
