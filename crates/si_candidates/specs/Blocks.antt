-- (field) The blocks of a graph, and the candidates for the insertion of a signal: pairs of
-- disjoint blocks.
use Rattle.std.specs.Prelude.{◌≡◌, ℕ, ◌+◌, ◌<◌, ◌==◌, ◌&&◌, not, Bool, true, false, List, [], ◌∷◌}
use Rattle.std.specs.Prelude.{◌++◌, length, map, take, filter, if◌then◌else◌}
use mathlib.Core.Bool.{beq}
use Rattle.std.specs.List.{list_any, range_with_len, slice_index_or}
use Rattle.si_base.specs.declared.ids.Event.{Event}
use Rattle.si_base.specs.declared.graph.Signal.{Signal}
use Rattle.si_base.specs.Graph.{StateGraph, rise, fall, is_driven}
use Rattle.si_base.specs.Codes.{CodedGraph}
use Rattle.si_base.specs.Sets.{IsDisjoint}
use Rattle.si_regions.specs.declared.regions.Component.{Component}
use Rattle.si_regions.specs.Regions.{AreComponents}
use Rattle.si_candidates.specs.Interval.{IsInterval}

-- the states of the list, marked among so many states
abbrev pub state_set : ℕ → List ℕ → List Bool
state_set states set = map (λ s. list_any (λ t. t == s) set) (range_with_len 0 states)

-- the same states
abbrev pub same_set : List Bool → List Bool → Bool
same_set [] [] = true
same_set (x ∷ xs) (y ∷ ys) = beq x y && same_set xs ys
same_set xs ys = false

-- each set once, where it stands first
abbrev pub without_repeats : List (List Bool) → List (List Bool)
without_repeats [] = []
without_repeats (x ∷ xs) = x ∷ filter (λ z. not (same_set z x)) (without_repeats xs)

-- the events of the signals that the circuit drives, in event order; a is the place of the first
abbrev pub driven_events : ℕ → List Signal → List Event
driven_events a [] = []
driven_events a (x ∷ signals) =
    if is_driven x.kind then rise a ∷ fall a ∷ driven_events (a + 1) signals
    else driven_events (a + 1) signals

-- the intervals from one set, up to each of the events
abbrev pub AreIntervalsFrom : StateGraph → List Bool → List Event → List (List Bool) → Type 0
AreIntervalsFrom g from [] [] = Unit {0}
AreIntervalsFrom g from (stop ∷ stops) (set ∷ sets) =
    IsInterval g from stop set × AreIntervalsFrom g from stops sets
AreIntervalsFrom g from stops sets = ⊥

-- the intervals from the switching region of each component in order
abbrev pub AreIntervals : StateGraph → List Event → List Component → List (List Bool) → Type 0
AreIntervals g stops [] sets = sets ≡ []
AreIntervals g stops (x ∷ components) sets =
    (here : List (List Bool)) × (rest : List (List Bool)) × (sets ≡ here ++ rest)
    × AreIntervalsFrom g (state_set g.states x.sr) stops here × AreIntervals g stops components rest

-- the most blocks
abbrev pub max_blocks : ℕ
max_blocks = 1024

-- the excited states of each component, what is entered from them, then the intervals: each set
-- once, and of these the first
abbrev pub blocks_of : ℕ → List Component → List (List Bool) → List (List Bool)
blocks_of states components intervals =
    take max_blocks (without_repeats (map (λ x. state_set states x.er) components
    ++ (map (λ x. state_set states x.sr) components ++ intervals)))

-- the blocks of c
pub record AreBlocks (c : CodedGraph) (blocks : List (List Bool)) : Type 0 where
  pub components : List Component
  pub are : AreComponents c components
  pub intervals : List (List Bool)
  pub intervals_are : AreIntervals c.graph (driven_events 0 c.graph.signals) components intervals
  pub blocks_are : blocks ≡ blocks_of c.graph.states components intervals

abbrev pub block_at : List (List Bool) → ℕ → List Bool
block_at blocks k = slice_index_or blocks k []

-- i and j are the places of two disjoint blocks, i the lower one
pub record IsCandidate (blocks : List (List Bool)) (i j : ℕ) : Type 0 where
  pub order : i < j
  pub within : j < length blocks
  pub disjoint : IsDisjoint (block_at blocks i) (block_at blocks j)
