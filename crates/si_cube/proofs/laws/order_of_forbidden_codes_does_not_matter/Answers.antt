use Rattle.si_cube.proofs.OrderLemmas.{same_chosen}
use Rattle.si_cube.proofs.laws.order_of_forbidden_codes_does_not_matter.Goals as goal

pub returns : goal.returns
returns c = λ signals required one other. same_chosen signals required other one
