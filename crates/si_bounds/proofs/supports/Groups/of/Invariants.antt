use Rattle.si_bounds.proofs.SupportsLemmas.{AreFound}
use Rattle.si_bounds.proofs.supports.Groups.of.Given as goal

abbrev pub invariant-loop-key : goal.invariant-loop-key
invariant-loop-key l = AreFound l.coded l.z l.fn.signals l.key-items l.off.items l.key-index l.list.items
