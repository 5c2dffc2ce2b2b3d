use Rattle.si_match.proofs.PlaceLemmas.{with_bit}
use Rattle.si_match.proofs.places.with_values.Goals as goal

pub returns : goal.returns
returns c = with_bit c.args.set c.args.values c.requires
