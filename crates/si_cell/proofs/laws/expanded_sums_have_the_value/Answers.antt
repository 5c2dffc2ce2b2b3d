use Rattle.si_cell.proofs.ExpandedLemmas.{expanded_value}
use Rattle.si_cell.proofs.laws.expanded_sums_have_the_value.Goals as goal

pub returns : goal.returns
returns c = λ library i z code good is within. expanded_value library i z good is within code
