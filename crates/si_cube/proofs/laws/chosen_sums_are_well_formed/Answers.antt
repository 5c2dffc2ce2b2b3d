use Rattle.si_cube.proofs.SumLemmas.{chosen_is_sum}
use Rattle.si_cube.proofs.laws.chosen_sums_are_well_formed.Goals as goal

pub returns : goal.returns
returns c = chosen_is_sum
