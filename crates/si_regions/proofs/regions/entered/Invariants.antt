use Rattle.si_regions.proofs.RegionLemmas.{AreTargets}
use Rattle.si_regions.proofs.regions.entered.Given as goal

abbrev pub invariant-loop-s : goal.invariant-loop-s
invariant-loop-s l = AreTargets l.coded.graph l.from l.e l.s-index l.targets.items
