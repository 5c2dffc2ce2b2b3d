use Rattle.std.proofs.Common.{◌≡◌, length}
use Rattle.si_examples.proofs.sets.set_of.Given as goal

abbrev pub invariant-loop-s : goal.invariant-loop-s
invariant-loop-s g l = length l.set ≡ l.size
