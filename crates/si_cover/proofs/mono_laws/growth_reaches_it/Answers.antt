use Rattle.si_cover.proofs.GrowingLemmas.{growth_begins, growth_takes, growth_goes_on, growth_ends, turns_drop}
use Rattle.si_cover.proofs.mono_laws.growth_reaches_it.Goals as goal

pub returns-clause-begins : goal.returns-clause-begins
returns-clause-begins c = growth_begins

pub returns-clause-takes : goal.returns-clause-takes
returns-clause-takes c = growth_takes

pub returns-clause-goes_on : goal.returns-clause-goes_on
returns-clause-goes_on c = growth_goes_on

pub returns-clause-ends : goal.returns-clause-ends
returns-clause-ends c = growth_ends

pub returns-clause-drops : goal.returns-clause-drops
returns-clause-drops c = turns_drop
