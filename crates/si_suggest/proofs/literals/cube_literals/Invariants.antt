use Rattle.std.proofs.Common.{◌≡◌, ◌+◌, ◌≤◌}
use Rattle.si_suggest.proofs.LiteralCounts.{left}
use Rattle.si_suggest.proofs.literals.cube_literals.Given as goal

abbrev pub invariant-loop-i : goal.invariant-loop-i
invariant-loop-i l = record {
  few : l.count ≤ l.i;
  counted : l.count + left l.cube-inside.care l.cube-inside.value l.i
      ≡ left l.cube-inside.care l.cube-inside.value 0;
}
