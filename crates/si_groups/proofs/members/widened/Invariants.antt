use Rattle.std.proofs.Common.{◌≡◌}
use Rattle.si_groups.specs.Groups.{numbers_with, touches}
use Rattle.si_groups.proofs.members.widened.Given as goal

abbrev pub invariant-loop-k : goal.invariant-loop-k
invariant-loop-k l = l.wider.items ≡ numbers_with (touches l.parts l.group) l.k
