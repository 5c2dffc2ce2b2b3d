use Rattle.si_cell.proofs.LawLemmas.{expanded_is_sum}
use Rattle.si_cell.proofs.laws.expanded_sums_are_well_formed.Goals as goal

pub returns : goal.returns
returns c = expanded_is_sum
