use Rattle.std.proofs.Common.{ℕ, ◌<◌}
use Rattle.si_system.specs.Lists.{AreSameAt}
use Rattle.si_system.proofs.lists.first_unlike.Given as goal

abbrev pub invariant-loop-k : goal.invariant-loop-k
invariant-loop-k l = (j : ℕ) → j < l.k → AreSameAt l.own l.values l.others l.start j
