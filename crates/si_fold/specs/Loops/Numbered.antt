-- Classes of states numbered by their first states.
use Rattle.std.specs.Prelude.{◌≡◌, ℕ, ◌<◌, ◌≤◌, List, length, All, slice_get, slice_index, Some}
use Rattle.std.specs.declared.cmp.Ordering.{Ordering}
use Rattle.std.specs.Ordering.{nat_cmp, ordering_then}
use Rattle.si_base.specs.Codes.{CodedGraph, code}
use Rattle.si_fold.specs.declared.numbering.Key.{Key}
use Rattle.si_fold.specs.Loops.Partition.{Shape, class_at}

-- the order of keys
abbrev pub key_cmp : Key → Key → Ordering
key_cmp x y = ordering_then (nat_cmp x.class y.class) (nat_cmp x.code y.code)

-- what tells whether two states are alike: the class of the state, and its code
abbrev pub key_of : CodedGraph → Shape → ℕ → Key
key_of c p s = record { class = class_at p s; code = code c s }

-- m is the first state with the key of s
pub record IsFirstLike (c : CodedGraph) (p : Shape) (s m : ℕ) : Type 0 where
  pub within : m ≤ s
  pub same : key_of c p m ≡ key_of c p s
  pub first : (t : ℕ) → t < m → key_of c p t ≡ key_of c p s → ⊥

-- the first n states are numbered: kept has the first of each key in order, and class the place
-- there for each state
pub record AreNumbered (c : CodedGraph) (p : Shape) (n : ℕ) (kept class : List ℕ) : Type 0 where
  pub in_order : (i j : ℕ) → i < j → j < length kept → slice_index kept i < slice_index kept j
  pub below : All (λ m. m < n) kept
  pub first : All (λ m. IsFirstLike c p m m) kept
  pub few : length kept ≤ n
  pub count : length class ≡ n
  pub each : (s : ℕ) → s < n
      → (m : ℕ) × IsFirstLike c p s m × (slice_get kept (slice_index class s) ≡ Some m)
