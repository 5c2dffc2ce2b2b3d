use Rattle.std.proofs.Common.{◌≡◌, ◌≤◌, take}
use Rattle.si_joins.specs.Lifted.{letters}
use Rattle.si_joins.proofs.names.letters.Given as goal

abbrev pub invariant-loop-k : goal.invariant-loop-k
invariant-loop-k l = (take l.end l.name ≡ letters (take l.k l.name)) × (l.end ≤ l.k)
