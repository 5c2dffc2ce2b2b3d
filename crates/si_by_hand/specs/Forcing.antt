-- (field) What the gate of a new signal forces.
use Rattle.std.specs.Prelude.{ℕ, Bool, if◌then◌else◌, length}
use Rattle.si_base.specs.Bits.{flip}
use Rattle.si_base.specs.Codes.{CodedGraph}
use Rattle.si_base.specs.Netlist.{Gate, value_of}
use Rattle.si_divisor.specs.Targets.{forced_by}

-- values of the signals before z, with this value of the new signal z
abbrev pub with_own : ℕ → ℕ → Bool → ℕ
with_own z values own = if own then flip values z else values

-- the value of the gate of the new signal z there
abbrev pub own_value : Gate → ℕ → ℕ → Bool → Bool
own_value gate z values own = value_of gate z (with_own z values own)

-- s is forced to b: the gate has the value b at the code of s, also where the new signal has the
-- other value
abbrev pub forced_at : Gate → CodedGraph → Bool → ℕ → Bool
forced_at gate c = forced_by (own_value gate (length c.graph.signals)) c
