-- (field) Signals that are about to switch.
use Rattle.std.specs.Prelude.{◌≢◌, ℕ}
use Rattle.si_base.specs.Bits.{bit}
use Rattle.si_base.specs.Graph.{IsNonInput}
use Rattle.si_base.specs.Codes.{CodedGraph, code, next_value}

-- z is no input, and its next value at s differs from its value
pub record IsExcitedAt (c : CodedGraph) (s z : ℕ) : Type 0 where
  pub non_input : IsNonInput c.graph.signals z
  pub differs : next_value c s z ≢ bit (code c s) z
