-- Of the states from which two targets can be reached the first.
use Rattle.std.specs.Prelude.{◌≡◌, ℕ, ◌+◌, ◌<◌, ◌≤◌, ◌⊎◌, List, Option, Some, None}
use Rattle.si_walks.specs.Distances.{at}

-- two distances together
abbrev pub distance_sum : Option ℕ → Option ℕ → Option ℕ
distance_sum None n = None
distance_sum (Some m) None = None
distance_sum (Some m) (Some n) = Some (m + n)

-- how many arcs lead from s to the two targets together
abbrev pub arcs_to_both : List (Option ℕ) → List (Option ℕ) → ℕ → Option ℕ
arcs_to_both first second s = distance_sum (at first s) (at second s)

-- of the first k states s has the fewest, and is the least of those that have as few
pub record IsNearestBelow (first second : List (Option ℕ)) (k s : ℕ) : Type 0 where
  pub below : s < k
  pub arcs : ℕ
  pub has : arcs_to_both first second s ≡ Some arcs
  pub least : (j m : ℕ) → j < k → arcs_to_both first second j ≡ Some m
      → (arcs < m) ⊎ ((arcs ≡ m) × (s ≤ j))

-- None where both are reached from none of them
abbrev pub IsNearestOrNone : List (Option ℕ) → List (Option ℕ) → ℕ → Option ℕ → Type 0
IsNearestOrNone first second k None =
    (j m : ℕ) → j < k → arcs_to_both first second j ≡ Some m → ⊥
IsNearestOrNone first second k (Some s) = IsNearestBelow first second k s

-- fewer arcs lead from s than from the best so far
abbrev pub IsFewer : List (Option ℕ) → List (Option ℕ) → ℕ → Option ℕ → Type 0
IsFewer first second s None = (n : ℕ) × (arcs_to_both first second s ≡ Some n)
IsFewer first second s (Some b) = (n : ℕ) × (arcs_to_both first second s ≡ Some n)
    × ((m : ℕ) → arcs_to_both first second b ≡ Some m → n < m)
