-- A search for the item of least weight, row after row: the first among equals.
use Rattle.std.specs.Prelude.{ℕ, List, [], ◌∷◌, Option, Some, None}
use Rattle.si_base.specs.Order.{Before}
use Rattle.si_checks.specs.Loops.Searches.{IsFirstOrNone}

-- less weight comes first, then the order of rows, then that of the places in a row
abbrev pub weight_order : {A : Type 0} → (A → ℕ) → (A → ℕ) → (A → ℕ) → A → List ℕ
weight_order weight row place x = weight x ∷ row x ∷ place x ∷ []

-- x has P, and stands before the place k of row r
pub record IsSeen {A : Type 0} (P : A → Type 0) (row place : A → ℕ) (r k : ℕ) (x : A)
    : Type 0 where
  pub holds : P x
  pub earlier : Before (row x ∷ place x ∷ []) (r ∷ k ∷ [])

-- of what has P, and stands before the place k of row r, the item of least weight, or None where
-- there is none
abbrev pub IsLeastSeen : {A : Type 0} → (A → Type 0) → (A → ℕ) → (A → ℕ) → (A → ℕ) → ℕ → ℕ
    → Option A → Type 0
IsLeastSeen P weight row place r k found =
    IsFirstOrNone (weight_order weight row place) (IsSeen P row place r k) found

-- the weight that the next item has to get below: the bound, or that of the item found so far
abbrev pub bar : {A : Type 0} → (A → ℕ) → ℕ → Option A → ℕ
bar weight bound None = bound
bar weight bound (Some x) = weight x
