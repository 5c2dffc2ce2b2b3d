use Rattle.si_divisor.proofs.FunctionLemmas.{Agrees}
use Rattle.si_divisor.proofs.function.code_where.Given as goal

abbrev pub invariant-loop-i : goal.invariant-loop-i
invariant-loop-i l = Agrees l.signals l.values l.i l.code
