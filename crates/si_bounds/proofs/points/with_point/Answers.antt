use Rattle.si_match.proofs.PlaceLemmas.{with_bit}
use Rattle.si_bounds.proofs.points.with_point.Goals as goal

pub returns : goal.returns
returns c = with_bit c.args.set c.args.point c.requires
