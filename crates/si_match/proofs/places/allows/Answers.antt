use Rattle.si_match.proofs.PlaceLemmas.{missed_bit}
use Rattle.si_match.proofs.places.allows.Goals as goal

pub returns : goal.returns
returns c = missed_bit c.args.on c.args.off c.args.table
