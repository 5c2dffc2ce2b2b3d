use Rattle.std.proofs.Common.{◌≡◌, ◌≤◌, length, map}
use Rattle.std.specs.List.{range_with_len}
use Rattle.si_insert.specs.Partition.{class_of}
use Rattle.si_candidates.proofs.by_sides.SideClasses.list.Given as goal

abbrev pub invariant-loop-k : goal.invariant-loop-k
invariant-loop-k l = record {
  told : l.list.items ≡ map (λ s. class_of l.self s) (range_with_len 0 l.k);
  most : l.k ≤ length l.self;
}
