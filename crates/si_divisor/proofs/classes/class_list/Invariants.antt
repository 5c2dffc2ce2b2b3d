use Rattle.std.proofs.Common.{◌≡◌, ℕ, ◌<◌, length, get_or, false}
use Rattle.si_insert.specs.Partition.{class_of}
use Rattle.si_divisor.specs.PartitionFor.{class_for}
use Rattle.si_divisor.proofs.classes.class_list.Given as goal

abbrev pub invariant-loop-s : goal.invariant-loop-s
invariant-loop-s l = record {
  size : length l.out.items ≡ l.s;
  each : (s : ℕ) → s < l.s → class_of l.out.items s ≡ class_for (get_or l.plus s false) (get_or l.minus s false)
      (get_or l.ones s false);
}
