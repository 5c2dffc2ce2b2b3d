use Rattle.si_bounds.proofs.WaitingLemmas.{AllWait, AreSeen}
use Rattle.si_bounds.proofs.waiting.waiting_signals.Given as goal

abbrev pub invariant-loop-a : goal.invariant-loop-a
invariant-loop-a l = record {
  seen : AreSeen l.classes l.a-items l.waiting l.a-index;
  waits : AllWait l.graph l.classes l.waiting;
}
