use Rattle.std.proofs.Common.{take}
use Rattle.si_graph.proofs.ValueLemmas.{TellsSoFar}
use Rattle.si_graph.proofs.values.start_code.Given as goal

abbrev pub invariant-loop-arc : goal.invariant-loop-arc
invariant-loop-arc l = TellsSoFar l.graph (take l.arc-index l.arc-items) l.start
