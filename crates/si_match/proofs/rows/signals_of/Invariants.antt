use Rattle.std.proofs.Common.{◌≡◌, ◌+◌, ◌-◌, length}
use Rattle.si_match.specs.Loops.Rows.{AreSignals}
use Rattle.si_match.specs.Weight.{size_from}
use Rattle.si_match.proofs.rows.signals_of.Given as goal

abbrev pub invariant-loop-i : goal.invariant-loop-i
invariant-loop-i l = record {
  signals : AreSignals l.set l.i l.signals.items;
  told : length l.signals.items + size_from (l.count - l.i) l.i l.set ≡ size_from l.count 0 l.set;
}
