use Rattle.std.proofs.Common.{◌+◌, ◌*◌, ◌≤◌}
use Rattle.si_base.specs.Limits.{code_width}
use Rattle.si_bounds.proofs.KeptLemmas.{IsSoFar}
use Rattle.si_bounds.proofs.kept.sum_with.Given as goal

abbrev pub invariant-loop-i : goal.invariant-loop-i
invariant-loop-i l = record {
  told : IsSoFar l.coded l.classes l.most l.waiting l.least l.i l.sum;
  few : l.sum ≤ l.i * (2 + code_width);
}
