-- What is shown next, where a code has a 1 for each signal that is known.
use Rattle.std.specs.Prelude.{ℕ, IsTrue, slice_get}
use Rattle.si_base.specs.Bits.{bit}
use Rattle.si_base.specs.Netlist.{Netlist, gate_place}
use Rattle.si_settled.specs.Settling.{shows_if_there}

-- the cubes of z's gate show its start value
abbrev pub IsShownBy : Netlist → ℕ → ℕ → Type 0
IsShownBy n known z =
    IsTrue (shows_if_there (bit known) n.start (slice_get n.gates (gate_place n.signals z))
    (bit n.start z))
