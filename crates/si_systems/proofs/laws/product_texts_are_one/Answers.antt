use Rattle.si_systems.proofs.ProductLemmas.{product_one, product_some}
use Rattle.si_systems.proofs.laws.product_texts_are_one.Goals as goal

pub returns-clause-some : goal.returns-clause-some
returns-clause-some c = product_some

pub returns-clause-one : goal.returns-clause-one
returns-clause-one c = product_one
