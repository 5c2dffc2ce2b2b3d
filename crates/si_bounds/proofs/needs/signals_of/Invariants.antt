use Rattle.std.proofs.Common.{◌≢◌, AllPairs}
use Rattle.si_match.specs.Loops.Rows.{AreSignals}
use Rattle.si_bounds.proofs.needs.signals_of.Given as goal

abbrev pub invariant-loop-i : goal.invariant-loop-i
invariant-loop-i l = record {
  those : AreSignals l.set l.i l.signals.items;
  once : AllPairs (λ x y. x ≢ y) l.signals.items;
}
