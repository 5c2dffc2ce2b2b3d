use Rattle.si_closures.proofs.WordBits.{in_less}
use Rattle.si_divisor.proofs.switching.those_out_of.Goals as goal

pub returns : goal.returns
returns c k = in_less c.args.sets c.args.word k c.ranges.sets.fits c.ranges.word.fits
