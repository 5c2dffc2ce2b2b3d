-- (field) All conflicts of a coded graph, and their number.
use Rattle.std.specs.Prelude.{◌≡◌, ℕ, ◌↔◌, ◌≤◌, ◌⊎◌, List, length, map, Contains, AllPairs}
use Rattle.si_base.specs.Order.{Before}
use Rattle.si_base.specs.Codes.{CodedGraph}
use Rattle.si_base.specs.Proper.{IsConflict, pair_place}
use Rattle.si_conflicts.specs.declared.conflicts.Pair.{Pair}

-- all conflicts of c, in order
pub record AreConflicts (c : CodedGraph) (pairs : List (ℕ × ℕ)) : Type 0 where
  pub exactly : (pair : ℕ × ℕ) → Contains pairs pair ↔ IsConflict c pair
  pub in_order : AllPairs (λ x y. Before (pair_place x) (pair_place y)) pairs

-- c has n conflicts
pub record HasConflicts (c : CodedGraph) (n : ℕ) : Type 0 where
  pub pairs : List (ℕ × ℕ)
  pub are : AreConflicts c pairs
  pub count : n ≡ length pairs

-- the first `limit` conflicts of c in order, or all
pub record AreFirstConflicts (c : CodedGraph) (limit : ℕ) (pairs : List (ℕ × ℕ)) : Type 0 where
  pub each : (pair : ℕ × ℕ) → Contains pairs pair → IsConflict c pair
  pub in_order : AllPairs (λ x y. Before (pair_place x) (pair_place y)) pairs
  pub few : length pairs ≤ limit
  pub first : (pair : ℕ × ℕ) → IsConflict c pair → Contains pairs pair
      ⊎ ((length pairs ≡ limit)
      × ((x : ℕ × ℕ) → Contains pairs x → Before (pair_place x) (pair_place pair)))

-- the code's pairs
abbrev pub pairs_of : List Pair → List (ℕ × ℕ)
pairs_of pairs = map (λ x. (x.p, x.q)) pairs
