-- A refinement of a graph.
use Rattle.si_base.specs.Graph.{StateGraph}
use Rattle.si_fold.specs.declared.refinement.Refinement.{Refinement}
use Rattle.si_fold.specs.Loops.Partition.{shape}
use Rattle.si_fold.specs.Loops.Refined.{AreRefining}

abbrev pub Refines : StateGraph → Refinement → Type 0
Refines g r = AreRefining g (shape r.states) (shape r.arcs) r.done r.followed
