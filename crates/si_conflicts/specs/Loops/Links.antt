-- States of equal code, and states in conflict, linked.
use Rattle.std.specs.Prelude.{◌≡◌, ℕ, ◌+◌, ◌<◌, List, length, Option, None, slice_index_or}
use Rattle.si_base.specs.Codes.{CodedGraph, code}
use Rattle.si_base.specs.Proper.{IsConflict}
use Rattle.si_graph.specs.Loops.Arcs.{IsFirstPlace}

-- the first state from `low` on that has the code, or None where there is none
abbrev pub IsFirstOfCode : CodedGraph → ℕ → ℕ → Option ℕ → Type 0
IsFirstOfCode c low k o = IsFirstPlace (λ t. code c t ≡ k) low c.graph.states o

-- for each state the next later one of its code
pub record AreNextEquals (c : CodedGraph) (next : List (Option ℕ)) : Type 0 where
  pub count : length next ≡ c.graph.states
  pub links : (s : ℕ) → s < c.graph.states
      → IsFirstOfCode c (s + 1) (code c s) (slice_index_or next s None)

-- the first state from `low` on with which s is in conflict, or None where there is none
abbrev pub IsFirstClash : CodedGraph → ℕ → ℕ → Option ℕ → Type 0
IsFirstClash c s low o = IsFirstPlace (λ t. IsConflict c (s, t)) low c.graph.states o

abbrev pub HasNextClash : CodedGraph → List (Option ℕ) → ℕ → Type 0
HasNextClash c next s = IsFirstClash c s (s + 1) (slice_index_or next s None)

-- for each state the next later one with which it is in conflict
pub record AreNextClashes (c : CodedGraph) (next : List (Option ℕ)) : Type 0 where
  pub count : length next ≡ c.graph.states
  pub links : (s : ℕ) → s < c.graph.states → HasNextClash c next s
