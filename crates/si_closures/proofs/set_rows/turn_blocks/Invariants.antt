use Rattle.si_closures.proofs.RowLemmas.{AreTurnedBelow}
use Rattle.si_closures.proofs.set_rows.turn_blocks.Given as goal

abbrev pub invariant-loop-b : goal.invariant-loop-b
invariant-loop-b l = AreTurnedBelow l.fn.rows l.b l.rows
