use Rattle.si_lifts.proofs.JoinsEnd.{refused_so}
use Rattle.si_lifts.proofs.laws.joins_are_refused_so.Goals as goal

pub returns : goal.returns
returns c = refused_so
