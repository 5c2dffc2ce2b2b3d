use Rattle.si_match.proofs.PlaceLemmas.{both_bits}
use Rattle.si_match.proofs.places.clash.Goals as goal

pub returns : goal.returns
returns c = both_bits c.args.on c.args.off
