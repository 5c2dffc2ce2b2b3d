use Rattle.std.proofs.Common.{◌-◌, length}
use Rattle.si_graph.specs.Loops.Starts.{AreBelow}
use Rattle.si_graph.proofs.arc_store.start_from.Given as goal

abbrev pub invariant-loop-place : goal.invariant-loop-place
invariant-loop-place l = AreBelow l.arcs l.fn.s l.place

abbrev pub decreases-loop-place : goal.decreases-loop-place
decreases-loop-place l = length l.arcs - l.place
