use Rattle.std.proofs.Common.{◌≡◌, ◌≤◌, length, map}
use Rattle.std.specs.List.{range_with_len}
use Rattle.si_base.specs.Sets.{is_in}
use Rattle.si_candidates.specs.Loops.Sides.{class_by}
use Rattle.si_candidates.proofs.classes.class_list.Given as goal

abbrev pub invariant-loop-k : goal.invariant-loop-k
invariant-loop-k l = record {
  told : l.list.items ≡ map (λ s. class_by (is_in l.plus s) (is_in l.minus s) (is_in l.high s)) (range_with_len 0 l.k);
  most : l.k ≤ length l.plus;
}
