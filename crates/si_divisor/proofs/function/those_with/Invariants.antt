use Rattle.si_divisor.proofs.ColumnLemmas.{AreWith}
use Rattle.si_divisor.proofs.function.those_with.Given as goal

abbrev pub invariant-loop-k : goal.invariant-loop-k
invariant-loop-k l = AreWith l.signals l.columns l.fn.values l.k l.there
