use Rattle.si_candidates.specs.Loops.ManySets.{Tells}
use Rattle.si_candidates.proofs.MaySwitchWords.{LeadOutBelow}
use Rattle.si_candidates.proofs.may_switch.those_to_leave.Given as goal

abbrev pub invariant-loop-step : goal.invariant-loop-step
invariant-loop-step l = Tells l.words (λ set. LeadOutBelow l.earlier set l.step-index) l.kept
