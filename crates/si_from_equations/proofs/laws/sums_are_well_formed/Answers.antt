use Rattle.si_from_equations.proofs.ShapeLemmas.{sums_well_formed}
use Rattle.si_from_equations.proofs.laws.sums_are_well_formed.Goals as goal

pub returns : goal.returns
returns c = sums_well_formed
