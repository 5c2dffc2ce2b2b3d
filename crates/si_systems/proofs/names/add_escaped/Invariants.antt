use Rattle.std.proofs.Common.{◌≡◌, ◌++◌, take}
use Rattle.si_systems.specs.Names.{escaped}
use Rattle.si_systems.proofs.names.add_escaped.Given as goal

abbrev pub invariant-loop-byte : goal.invariant-loop-byte
invariant-loop-byte l = l.text ≡ l.initial.text ++ escaped (take l.byte-index l.name)
