-- How far the conflicts are found.
use Rattle.std.specs.Prelude.{◌≡◌, ℕ, ◌↔◌, ◌<◌, ◌⊎◌, List, [], ◌∷◌, length, Contains, AllPairs}
use Rattle.si_base.specs.Order.{Before}
use Rattle.si_base.specs.Codes.{CodedGraph}
use Rattle.si_base.specs.Proper.{IsConflict, pair_place}
use Rattle.si_conflicts.specs.Conflicts.{AreFirstConflicts}

-- the conflicts before the place j and k, in order
pub record AreBelow (c : CodedGraph) (j k : ℕ) (pairs : List (ℕ × ℕ)) : Type 0 where
  pub exactly : (pair : ℕ × ℕ) → Contains pairs pair
      ↔ (IsConflict c pair × Before (pair_place pair) (j ∷ k ∷ []))
  pub in_order : AllPairs (λ x y. Before (pair_place x) (pair_place y)) pairs

-- the conflicts before the place j and k, or the first `limit`, where these are all before it
abbrev pub AreFoundTo : CodedGraph → ℕ → ℕ → ℕ → List (ℕ × ℕ) → Type 0
AreFoundTo c j k limit pairs = (AreBelow c j k pairs × (length pairs < limit))
    ⊎ (AreFirstConflicts c limit pairs × (length pairs ≡ limit))
