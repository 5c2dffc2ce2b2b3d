-- One state for each code, and which codes have a conflict.
use Rattle.std.specs.Prelude.{◌≡◌, ◌≢◌, ℕ, ◌<◌, ◌↔◌, Bool, false, List, length, IsTrue, Some}
use Rattle.std.specs.Prelude.{Option, slice_index, slice_index_or}
use Rattle.si_base.specs.Codes.{CodedGraph, code}
use Rattle.si_conflicts.specs.declared.keys.Key.{Key}
use Rattle.si_conflicts.specs.Loops.Keys.{key_at}

-- states by their codes, one for each code of the first n states
pub record AreByCode (c : CodedGraph) (n : ℕ) (states : ℕ → Option ℕ) : Type 0 where
  pub of_code : (k r : ℕ) → states k ≡ Some r → (r < c.graph.states) × (code c r ≡ k)
  pub each : (s : ℕ) → s < n → (r : ℕ) × (states (code c s) ≡ Some r)

-- for each state one of its code, which is the same for all states of a code
pub record AreRepresentatives (c : CodedGraph) (chosen : List ℕ) : Type 0 where
  pub count : length chosen ≡ c.graph.states
  pub within : (s : ℕ) → s < c.graph.states → slice_index chosen s < c.graph.states
  pub of_code : (s : ℕ) → s < c.graph.states → code c (slice_index chosen s) ≡ code c s
  pub same : (s t : ℕ) → s < c.graph.states → t < c.graph.states → code c s ≡ code c t
      → slice_index chosen s ≡ slice_index chosen t

-- a state, and the state chosen for it is r, and its key differs from that of r
pub record DiffersFrom (keys : List Key) (chosen : List ℕ) (s r : ℕ) : Type 0 where
  pub within : s < length chosen
  pub chosen_is : slice_index chosen s ≡ r
  pub differs : (key_at keys s).excited ≢ (key_at keys r).excited

-- for each state whether some state for which it is chosen differs from it
pub record AreMixed (keys : List Key) (chosen : List ℕ) (mixed : List Bool) : Type 0 where
  pub count : length mixed ≡ length chosen
  pub each : (r : ℕ) → r < length chosen
      → IsTrue (slice_index_or mixed r false) ↔ ((s : ℕ) × DiffersFrom keys chosen s r)
