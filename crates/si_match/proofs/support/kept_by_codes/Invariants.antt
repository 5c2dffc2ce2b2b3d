use Rattle.si_match.proofs.CodeLemmas.{InSupport}
use Rattle.si_match.proofs.support.kept_by_codes.Given as goal

abbrev pub invariant-loop-i : goal.invariant-loop-i
invariant-loop-i l = InSupport l.coded l.fn.z l.i l.signals l.on.items l.off.items
