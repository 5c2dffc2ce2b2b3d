-- (field) A reset input, and the outputs that it forces to their start values.
use Rattle.std.specs.Prelude.{ℕ, List, Option, Some, None}
use Rattle.si_base.specs.Netlist.{Netlist}
use Rattle.si_settled.specs.Settling.{AreForced}
use Rattle.si_resettable.specs.Refusals.{HasRoomFor}

pub record Forcing : Type 0 where
  -- the name of the input
  pub name : List ℕ
  -- the signals that it forces
  pub forced : List ℕ

-- the netlist has room for the input, and just its outputs to force are forced
pub record IsForcing (n : Netlist) (f : Forcing) : Type 0 where
  pub room : HasRoomFor n f.name
  pub are : AreForced n f.forced

-- there is no reset input, or it is one of the netlist
abbrev pub IsResetOf : Netlist → Option Forcing → Type 0
IsResetOf n None = Unit {0}
IsResetOf n (Some f) = IsForcing n f
