-- The numbers that aren't in a list.
use Rattle.std.specs.Prelude.{◌≡◌, ℕ, ◌<◌, ◌↔◌, List, [], Bool, length, map, Contains, AllPairs}
use Rattle.std.specs.Prelude.{slice_index_or}
use Rattle.std.specs.List.Sorted.{IsStrictlySortedBy}
use Rattle.std.specs.Ordering.{nat_cmp}
use Rattle.si_base.specs.Sets.{IsIn}

-- of so many states those of the list
pub record IsSetOf (size : ℕ) (states : List ℕ) (set : List Bool) : Type 0 where
  pub count : length set ≡ size
  pub exactly : (s : ℕ) → IsIn set s ↔ Contains states s

-- the numbers below a bound that don't have Q
pub record AreOthers (Q : ℕ → Type 0) (bound : ℕ) (others : List ℕ) : Type 0 where
  pub in_order : AllPairs (λ x y. x < y) others
  pub exactly : (s : ℕ) → Contains others s ↔ ((s < bound) × (Q s → ⊥))

-- the names at the places that aren't in the list
pub record AreNamesOfOthers (names : List (List ℕ)) (kept : List ℕ) (found : List (List ℕ))
    : Type 0 where
  pub others : List ℕ
  pub in_order : IsStrictlySortedBy nat_cmp others
  pub exactly : (s : ℕ) → Contains others s ↔ ((s < length names) × (Contains kept s → ⊥))
  pub named : found ≡ map (λ s. slice_index_or names s []) others
