-- Signals that are dropped in signal order.
use Rattle.std.specs.Prelude.{◌≡◌, ℕ, ◌<◌, ◌≤◌, ◌-◌, true, length}
use Rattle.si_base.specs.Bits.{bit}
use Rattle.si_base.specs.Codes.{CodedGraph}
use Rattle.si_match.specs.Support.{support_by_drops, support_of}

-- the signals before the i-th have been tried: those from it on are all there, and what is to be
-- dropped of them gives the support
pub record AreTried (c : CodedGraph) (z i signals : ℕ) : Type 0 where
  pub told : support_by_drops c z (length c.graph.signals - i) i signals ≡ support_of c z
  pub later : (j : ℕ) → i ≤ j → j < length c.graph.signals → bit signals j ≡ true
