use Rattle.si_closures.proofs.TurnedLemmas.{picked_here, picked_elsewhere}
use Rattle.si_closures.proofs.turned.pick.Goals as goal

pub returns-clause-here : goal.returns-clause-here
returns-clause-here c j is = picked_here c.args.low c.args.here c.args.elsewhere j c.ranges.low.fits is

pub returns-clause-elsewhere : goal.returns-clause-elsewhere
returns-clause-elsewhere c j below is =
    picked_elsewhere c.args.low c.args.here c.args.elsewhere j c.ranges.low.fits below is
