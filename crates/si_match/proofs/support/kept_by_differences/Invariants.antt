use Rattle.si_match.proofs.DifferenceLemmas.{AreLeft}
use Rattle.si_match.proofs.support.kept_by_differences.Given as goal

abbrev pub invariant-loop-i : goal.invariant-loop-i
invariant-loop-i l = AreLeft l.coded l.fn.z l.fn.all l.i l.signals
