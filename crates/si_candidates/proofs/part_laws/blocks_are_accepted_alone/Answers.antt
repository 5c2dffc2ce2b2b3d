use Rattle.si_candidates.proofs.BlockingLemmas.{inputs_by_block, losses_by_block, accepted_by_blocks}
use Rattle.si_candidates.proofs.BlockCopyCount.{copies_by_blocks}
use Rattle.si_candidates.proofs.part_laws.blocks_are_accepted_alone.Goals as goal

pub returns-clause-inputs : goal.returns-clause-inputs
returns-clause-inputs c = inputs_by_block

pub returns-clause-losses : goal.returns-clause-losses
returns-clause-losses c = losses_by_block

pub returns-clause-accepted : goal.returns-clause-accepted
returns-clause-accepted c = accepted_by_blocks

pub returns-clause-copies : goal.returns-clause-copies
returns-clause-copies c = copies_by_blocks
