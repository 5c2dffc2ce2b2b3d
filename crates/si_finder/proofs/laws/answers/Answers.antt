use Rattle.si_finder.proofs.NoneFound.{refusals_fit_none}
use Rattle.si_finder.proofs.OneAnswer.{answers_are_one}
use Rattle.si_finder.proofs.SomeAnswer.{answers_exist}
use Rattle.si_finder.proofs.laws.answers.Goals as goal

pub returns-clause-one : goal.returns-clause-one
returns-clause-one c = answers_are_one

pub returns-clause-none : goal.returns-clause-none
returns-clause-none c = refusals_fit_none

pub returns-clause-some : goal.returns-clause-some
returns-clause-some c = answers_exist
