use Rattle.std.proofs.Common.{◌≡◌, ◌≤◌, ◌*◌, ◌+◌, drop}
use Rattle.si_base.specs.Limits.{code_width}
use Rattle.si_bounds.specs.Loops.Least.{sum_outside}
use Rattle.si_bounds.proofs.least.sum_without.Given as goal

abbrev pub invariant-loop-i : goal.invariant-loop-i
invariant-loop-i l = record {
  told : l.sum + sum_outside l.waiting l.i (drop l.i l.least) ≡ sum_outside l.waiting 0 l.least;
  few : l.sum ≤ l.i * (2 + code_width);
}
