use Rattle.si_lifts.proofs.JoinsEnd.{of_parts}
use Rattle.si_lifts.proofs.laws.joined_netlists_are_of_parts.Goals as goal

pub returns : goal.returns
returns c = of_parts
