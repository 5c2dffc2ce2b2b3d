use Rattle.si_match.proofs.refute.is_refuted.Given as goal

abbrev pub invariant-loop-state : goal.invariant-loop-state
invariant-loop-state l = Unit {0}
