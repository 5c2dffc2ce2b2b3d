use Rattle.si_cube.proofs.RuleLemmas.{chosen_is_prime_cover}
use Rattle.si_cube.proofs.laws.chosen_sums_are_prime_covers.Goals as goal

pub returns : goal.returns
returns c = chosen_is_prime_cover
