use Rattle.si_from_equations.proofs.ValueLemmas.{sums_have_values}
use Rattle.si_from_equations.proofs.laws.sums_have_their_values.Goals as goal

pub returns : goal.returns
returns c = sums_have_values
