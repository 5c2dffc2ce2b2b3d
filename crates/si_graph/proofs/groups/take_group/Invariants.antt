use Rattle.std.proofs.Common.{◌-◌, length}
use Rattle.si_graph.proofs.GroupLemmas.{AreGathered}
use Rattle.si_graph.proofs.groups.take_group.Given as goal

abbrev pub invariant-loop-k : goal.invariant-loop-k
invariant-loop-k l = AreGathered l.arcs l.fn.s l.k l.group.items

abbrev pub decreases-loop-k : goal.decreases-loop-k
decreases-loop-k l = length l.arcs - l.k
