use Rattle.std.proofs.Common.{◌≡◌, ◌≤◌, take}
use Rattle.si_resolve.specs.Loops.Aspects.{unparted_count}
use Rattle.si_resolve.proofs.aspects.unparted_count.Given as goal

abbrev pub invariant-loop-k : goal.invariant-loop-k
invariant-loop-k l = record {
  left : l.left ≡ unparted_count (take l.k l.plus) (take l.k l.minus);
  few : l.left ≤ l.k;
}
