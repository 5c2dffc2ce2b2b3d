use Rattle.si_closures.proofs.RowLemmas.{ArePut}
use Rattle.si_closures.proofs.set_rows.put_row.Given as goal

abbrev pub invariant-loop-b : goal.invariant-loop-b
invariant-loop-b l = ArePut l.k l.words l.fn.rows l.b l.rows
