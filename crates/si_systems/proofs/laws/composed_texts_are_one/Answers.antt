use Rattle.si_systems.proofs.ComposeLemmas.{compose_one, compose_some}
use Rattle.si_systems.proofs.laws.composed_texts_are_one.Goals as goal

pub returns-clause-some : goal.returns-clause-some
returns-clause-some c = compose_some

pub returns-clause-one : goal.returns-clause-one
returns-clause-one c = compose_one
