-- Intervals that are asked for.
use Rattle.std.specs.Prelude.{◌≡◌, ℕ, ◌+◌, ◌<◌, ◌≤◌, Bool, List, [], ◌∷◌, ◌++◌, length, map}
use Rattle.si_base.specs.declared.ids.Event.{Event}
use Rattle.si_base.specs.Graph.{StateGraph}
use Rattle.si_closures.specs.Loops.WordSearch.{column, HasBit}
use Rattle.si_regions.specs.declared.regions.Component.{Component}
use Rattle.si_candidates.specs.Blocks.{state_set}
use Rattle.si_candidates.specs.Interval.{IsInterval}

-- the interval from a set up to an event
pub record Ask : Type 0 where
  pub from : List Bool
  pub stop : Event

-- those from one set, up to each of the events
abbrev pub asks_from : List Bool → List Event → List Ask
asks_from from stops = map (λ (stop : Event). record { from = from; stop = stop }) stops

-- those from the switching region of each component
abbrev pub asks_of : ℕ → List Event → List Component → List Ask
asks_of states stops [] = []
asks_of states stops (x ∷ components) =
    asks_from (state_set states x.sr) stops ++ asks_of states stops components

-- ---- words and events that ask
-- from bit k of the words and the first event on
abbrev pub asked_on : ℕ → List ℕ → List Event → List Ask
asked_on k words [] = []
asked_on k words (stop ∷ stops) =
    record { from = column k words; stop = stop } ∷ asked_on (k + 1) words stops

-- bit k goes with the event at k
abbrev pub asked_for : List ℕ → List Event → List Ask
asked_for words stops = asked_on 0 words stops

-- a word for each of so many states, at most 128 events, and no bits past those that have an event
pub record AreReady (states : ℕ) (words : List ℕ) (stops : List Event) : Type 0 where
  pub size : length words ≡ states
  pub few : length stops ≤ 128
  pub free : (k s : ℕ) → length stops ≤ k → k < 128 → HasBit words k s → ⊥

-- ---- answers
-- the sets are the intervals that are asked for, one after another
abbrev pub AreIntervalsOf : StateGraph → List Ask → List (List Bool) → Type 0
AreIntervalsOf g [] [] = Unit {0}
AreIntervalsOf g (a ∷ asks) (set ∷ sets) =
    IsInterval g a.from a.stop set × AreIntervalsOf g asks sets
AreIntervalsOf g asks sets = ⊥
