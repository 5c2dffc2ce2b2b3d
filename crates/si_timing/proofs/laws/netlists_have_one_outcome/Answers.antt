use Rattle.si_timing.proofs.Decisions.{none_of_cells, one_refusal, some_outcome}
use Rattle.si_timing.proofs.laws.netlists_have_one_outcome.Goals as goal

pub returns-clause-reasons : goal.returns-clause-reasons
returns-clause-reasons c = one_refusal

pub returns-clause-both : goal.returns-clause-both
returns-clause-both c = none_of_cells

pub returns-clause-exist : goal.returns-clause-exist
returns-clause-exist c = some_outcome
