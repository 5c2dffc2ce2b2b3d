use Rattle.std.proofs.Common.{◌≡◌, take}
use Rattle.si_groups.specs.Groups as meaning
use Rattle.si_groups.proofs.members.members.Given as goal

abbrev pub invariant-loop-i : goal.invariant-loop-i
invariant-loop-i l = l.those.items ≡ meaning.members l.parts (take l.i-index l.group)
