use Rattle.std.proofs.Common.{◌≡◌, ℕ, ◌-◌, ◌<◌, ◌≤◌, get_or, length, if◌then◌else◌}
use Rattle.si_cube.specs.Rule.{covers}
use Rattle.si_cube.proofs.needed.uncount.Given as goal

abbrev pub invariant-loop-k : goal.invariant-loop-k
invariant-loop-k l = record {
  same_length : length l.counts.items ≡ length l.required;
  before : (j : ℕ) → j < l.k
      → get_or l.counts.items j 0 ≡ get_or l.initial.counts.items j 0 -
      (if covers l.cube (get_or l.required j 0) then 1 else 0);
  after : (j : ℕ) → l.k ≤ j → get_or l.counts.items j 0 ≡ get_or l.initial.counts.items j 0;
}
