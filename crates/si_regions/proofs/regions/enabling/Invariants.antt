use Rattle.si_regions.proofs.RegionLemmas.{MadeTo, IsArcBy}
use Rattle.si_regions.proofs.regions.enabling.Given as goal

abbrev pub invariant-loop-arc : goal.invariant-loop-arc
invariant-loop-arc l = MadeTo (IsArcBy l.coded.graph.edges l.e) l.coded.graph.states l.arc-index l.set
