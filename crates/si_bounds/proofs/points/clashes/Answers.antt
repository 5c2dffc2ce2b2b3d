use Rattle.si_bounds.proofs.PointLemmas.{clash_found}
use Rattle.si_bounds.proofs.points.clashes.Goals as goal

pub returns : goal.returns
returns c = clash_found c.args.missed.now
