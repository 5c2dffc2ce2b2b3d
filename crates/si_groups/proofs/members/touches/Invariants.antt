use Rattle.std.proofs.Common.{◌≡◌, false, take}
use Rattle.si_groups.specs.Groups.{touches}
use Rattle.si_groups.proofs.members.touches.Given as goal

-- no member so far shares a signal
abbrev pub invariant-loop-i : goal.invariant-loop-i
invariant-loop-i l = touches l.parts (take l.i-index l.group) l.k ≡ false
