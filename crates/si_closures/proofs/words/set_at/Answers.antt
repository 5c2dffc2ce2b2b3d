use Rattle.std.proofs.Common.{arith}
use Rattle.si_closures.proofs.WordLemmas.{all_told}
use Rattle.si_closures.proofs.words.set_at.Goals as goal

pub returns : goal.returns
returns c = all_told c.args.words.now c.args.k c.loop-s.s c.loop-s.set c.loop-s.invariant
    (omega (arith, c.loop-s-test.false, c.requires.size))
