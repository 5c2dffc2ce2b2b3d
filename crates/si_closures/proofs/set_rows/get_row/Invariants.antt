use Rattle.std.proofs.Common.{length}
use Rattle.si_closures.proofs.RowLemmas.{AreGot}
use Rattle.si_closures.proofs.set_rows.get_row.Given as goal

abbrev pub invariant-loop-w : goal.invariant-loop-w
invariant-loop-w l = AreGot l.rows l.k (length l.fn.words) l.w l.words
