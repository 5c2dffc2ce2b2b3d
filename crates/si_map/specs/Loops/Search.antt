-- The search for the best divisor, divisor after divisor.
use Rattle.std.specs.Prelude.{ℕ, [], ◌∷◌, Option}
use Rattle.si_base.specs.Order.{Before}
use Rattle.si_base.specs.Codes.{CodedGraph}
use Rattle.si_cell.specs.Library.{Library}
use Rattle.si_insert.specs.Loops.RowSearch.{IsLeastSeen, bar as bar_by}
use Rattle.si_map.specs.Best.{Choice, Serves}

-- the divisor stands before the place k of the list of signal z
abbrev pub IsEarlier : Choice → ℕ → ℕ → Type 0
IsEarlier x z k = Before (x.signal ∷ x.place ∷ []) (z ∷ k ∷ [])

-- the best of those before that place, or None where none serves
abbrev pub IsBestSoFar : CodedGraph → Library → ℕ → ℕ → Option Choice → Type 0
IsBestSoFar c library z k found =
    IsLeastSeen (Serves c library) (λ x. x.weight) (λ x. x.signal) (λ x. x.place) z k found

-- the weight that the next one has to get below: that of the graph, or of the best so far
abbrev pub bar : ℕ → Option Choice → ℕ
bar weight found = bar_by (λ x. x.weight) weight found
