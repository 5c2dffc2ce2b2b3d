use Rattle.si_groups.proofs.OneWork.{no_misfit, one_misfit, work_one}
use Rattle.si_groups.proofs.SomeWork.{work_or_misfit}
use Rattle.si_groups.proofs.laws.misfits_are_one.Goals as goal

pub returns-clause-work : goal.returns-clause-work
returns-clause-work c = work_one

pub returns-clause-apart : goal.returns-clause-apart
returns-clause-apart c = no_misfit

pub returns-clause-one : goal.returns-clause-one
returns-clause-one c = one_misfit

pub returns-clause-some : goal.returns-clause-some
returns-clause-some c = work_or_misfit
