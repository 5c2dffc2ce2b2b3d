use Rattle.si_checks.proofs.BreachesDecided.{proper_or_breach}
use Rattle.si_checks.proofs.laws.improper_graphs_have_a_first_breach.Goals as goal

pub returns : goal.returns
returns c = proper_or_breach
