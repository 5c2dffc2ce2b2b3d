use Rattle.si_works.proofs.WorksLemmas.{works_one, works_some}
use Rattle.si_works.proofs.laws.works_is_one.Goals as goal

pub returns-clause-some : goal.returns-clause-some
returns-clause-some c = works_some

pub returns-clause-one : goal.returns-clause-one
returns-clause-one c = works_one
