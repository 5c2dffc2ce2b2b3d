use Rattle.si_candidates.proofs.MaySwitchWords.{ArePassed}
use Rattle.si_candidates.proofs.may_switch.keep_passed.Given as goal

abbrev pub invariant-loop-b : goal.invariant-loop-b
invariant-loop-b l = ArePassed l.graph l.lists l.arc l.fn.may l.b l.may
