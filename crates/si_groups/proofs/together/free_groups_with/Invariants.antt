use Rattle.std.proofs.Common.{◌≤◌, ◌*◌}
use Rattle.si_groups.specs.Together.{IsFreeWith}
use Rattle.si_groups.proofs.together.free_groups_with.Given as goal

abbrev pub invariant-loop-j : goal.invariant-loop-j
invariant-loop-j l = IsFreeWith l.parts l.i l.j l.groups × (l.groups ≤ 64 * l.j)
