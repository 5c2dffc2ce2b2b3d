use Rattle.si_bounds.proofs.SupportsLemmas.{AreFirstWith}
use Rattle.si_bounds.proofs.supports.states_with.Given as goal

abbrev pub invariant-loop-s : goal.invariant-loop-s
invariant-loop-s l = AreFirstWith l.coded l.z l.value l.fn.signals l.fn.key l.s l.set
