use Rattle.si_bounds.proofs.PointLemmas.{less_missed, more_missed}
use Rattle.si_bounds.proofs.points.misses_less.Goals as goal

pub returns-then-one-other : goal.returns-then-one-other
returns-then-one-other c = less_missed c.args.one.now c.args.other.now c.if-one-other.true

pub returns-else-one-other : goal.returns-else-one-other
returns-else-one-other c = more_missed c.args.one.now c.args.other.now c.if-one-other.false
