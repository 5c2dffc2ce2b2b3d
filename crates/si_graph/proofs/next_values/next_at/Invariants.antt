use Rattle.std.proofs.Common.{slice_index}
use Rattle.si_graph.proofs.NextValueLemmas.{AreSet}
use Rattle.si_graph.proofs.next_values.next_at.Given as goal

abbrev pub invariant-loop-arc : goal.invariant-loop-arc
invariant-loop-arc l = AreSet l.arc-items l.arc-index (slice_index l.fn.codes l.fn.s) l.next
