use Rattle.std.proofs.Common.{◌≡◌, map, take}
use Rattle.std.specs.List.{join_with_byte}
use Rattle.si_systems.specs.Names.{escaped}
use Rattle.si_systems.proofs.names.joined_escaped.Given as goal

abbrev pub invariant-loop-k : goal.invariant-loop-k
invariant-loop-k l = l.text ≡ join_with_byte 124 (take l.k (map escaped l.names))
