-- The search for the best candidate, candidate after candidate.
use Rattle.std.specs.Prelude.{ℕ, ◌<◌, Bool, List, [], ◌∷◌, Option}
use Rattle.si_base.specs.Order.{Before}
use Rattle.si_base.specs.Codes.{CodedGraph}
use Rattle.si_insert.specs.Loops.RowSearch.{IsLeastSeen, bar as bar_by}
use Rattle.si_resolve.specs.Best.{Choice, IsChoice}

-- the candidate stands before the places j and i
abbrev pub IsEarlier : Choice → ℕ → ℕ → Type 0
IsEarlier x j i = Before (x.j ∷ x.i ∷ []) (j ∷ i ∷ [])

-- an accepted candidate that leaves fewer than n conflicts
pub record IsFewer (c : CodedGraph) (blocks : List (List Bool)) (n : ℕ) (x : Choice)
    : Type 0 where
  pub choice : IsChoice c blocks x
  pub fewer : x.conflicts < n

-- the best of those before j and i, or None where there is none
abbrev pub IsBestSoFar : CodedGraph → List (List Bool) → ℕ → ℕ → ℕ → Option Choice → Type 0
IsBestSoFar c blocks n j i found =
    IsLeastSeen (IsFewer c blocks n) (λ x. x.conflicts) (λ x. x.j) (λ x. x.i) j i found

-- the number that the next one has to get below
abbrev pub bar : ℕ → Option Choice → ℕ
bar n found = bar_by (λ x. x.conflicts) n found
