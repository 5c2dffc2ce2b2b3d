-- The set of the states at which a value is forced.
use Rattle.std.specs.Prelude.{◌≡◌, ℕ, ◌<◌, Bool, false, List, length, slice_index_or}

-- a set of n states, those that are forced
pub record IsForcedSet (forced : ℕ → Bool) (n : ℕ) (set : List Bool) : Type 0 where
  pub size : length set ≡ n
  pub each : (s : ℕ) → s < n → slice_index_or set s false ≡ forced s
