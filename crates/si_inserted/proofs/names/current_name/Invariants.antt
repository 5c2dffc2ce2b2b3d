use Rattle.std.proofs.Common.{◌≡◌, map, take}
use Rattle.si_inserted.specs.Current as current
use Rattle.si_inserted.proofs.names.current_name.Given as goal

abbrev pub invariant-loop-byte : goal.invariant-loop-byte
invariant-loop-byte l = l.name.items ≡ map current.name_byte (take l.byte-index l.byte-items)
