use Rattle.std.proofs.Common.{◌≤◌, length}
use Rattle.si_conflicts.specs.Conflicts.{AreFirstConflicts, pairs_of}
use Rattle.si_conflicts.specs.Loops.Search.{AreBelow}
use Rattle.std.proofs.Common.{◌≡◌, ◌⊎◌}
use Rattle.si_conflicts.proofs.conflicts.conflicts.Given as goal

abbrev pub invariant-loop-s : goal.invariant-loop-s
invariant-loop-s l = (AreBelow l.graph l.s 0 (pairs_of l.pairs.items) × (length l.pairs.items ≤ l.limit)) ⊎
    (AreFirstConflicts l.graph l.limit (pairs_of l.pairs.items) × (length l.pairs.items ≡ l.limit))
