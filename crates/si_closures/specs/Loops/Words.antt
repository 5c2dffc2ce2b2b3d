-- Words for states or events, bit k of which is that of the set k.
use Rattle.std.specs.Prelude.{◌≡◌, ℕ, ◌<◌, List, length, slice_index_or}
use Rattle.si_base.specs.declared.ids.Event.{Event}
use Rattle.si_closures.specs.Loops.WordSearch.{HasBit}

-- each set has all of so many states
pub record HasAll (states : ℕ) (words : List ℕ) : Type 0 where
  pub size : length words ≡ states
  pub each : (k s : ℕ) → k < 128 → s < states → HasBit words k s

-- e is the event at k
pub record IsEventAt (events : List Event) (k : ℕ) (e : Event) : Type 0 where
  pub inside : k < length events
  pub same : slice_index_or events k e ≡ e
