use Rattle.si_loops.proofs.SplitLemmas.{GoneOver}
use Rattle.si_loops.proofs.cut.cut_loops.Given as goal

abbrev pub invariant-loop-arc : goal.invariant-loop-arc
invariant-loop-arc l = GoneOver l.arcs l.kept l.cut.items l.arc-index
