use Rattle.si_regions.proofs.RegionLemmas.{MadeTo}
use Rattle.si_candidates.proofs.BlockMarks.{IsListed}
use Rattle.si_candidates.proofs.blocks.marked_set.Given as goal

abbrev pub invariant-loop-s : goal.invariant-loop-s
invariant-loop-s l = MadeTo (IsListed l.states) l.size l.s-index l.set
