-- (field) The next values of all signals at a state, as a code.
use Rattle.std.specs.Prelude.{◌≡◌, ℕ, ◌<◌, ◌^◌, List, length, slice_index}
use Rattle.si_base.specs.Bits.{bit}
use Rattle.si_base.specs.Codes.{CodedGraph, IsCoded, next_value}

-- bit z of the code is the next value of signal z at s, and each bit past the last signal is 0
pub record IsNextCode (c : CodedGraph) (s next : ℕ) : Type 0 where
  pub values : (z : ℕ) → z < length c.graph.signals → bit next z ≡ next_value c s z
  pub no_more : next < 2 ^ length c.graph.signals

-- such a code for each state
pub record AreNextCodes (c : CodedGraph) (nexts : List ℕ) : Type 0 where
  pub count : length nexts ≡ c.graph.states
  pub each : (s : ℕ) → s < c.graph.states → IsNextCode c s (slice_index nexts s)

-- what holds of a coded graph that keeps the next values at its states
pub record AreCodesWithNexts (c : CodedGraph) (nexts : List ℕ) : Type 0 where
  pub coded : IsCoded c
  pub nexts_are : AreNextCodes c nexts
