use Rattle.si_match.proofs.ApartLemmas.{AreSplit}
use Rattle.si_match.proofs.apart.codes_among.Given as goal

abbrev pub invariant-loop-state : goal.invariant-loop-state
invariant-loop-state l = AreSplit l.coded l.z l.states l.state-index l.on.items l.off.items
