use Rattle.si_bounds.proofs.PointLemmas.{unchanged}
use Rattle.si_bounds.proofs.points.changes.Goals as goal

pub returns : goal.returns
returns c = unchanged c.args.table c.args.above c.args.codes
