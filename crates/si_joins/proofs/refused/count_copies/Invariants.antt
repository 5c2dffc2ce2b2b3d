use Rattle.std.proofs.Common.{◌≡◌, ◌≤◌, ◌*◌, take}
use Rattle.si_insert.specs.Accepted.{copy_count}
use Rattle.si_joins.proofs.refused.count_copies.Given as goal

abbrev pub invariant-loop-class : goal.invariant-loop-class
invariant-loop-class l = (l.count ≡ copy_count (take l.class-index l.classes)) × (l.count ≤ 2 * l.class-index)
