use Rattle.std.proofs.Common.{◌≤◌, ◌*◌}
use Rattle.si_groups.specs.Together.{AreFreeBelow}
use Rattle.si_groups.proofs.together.free_groups.Given as goal

abbrev pub invariant-loop-i : goal.invariant-loop-i
invariant-loop-i l = AreFreeBelow l.parts l.i l.groups × (l.groups ≤ 4096 * l.i)
