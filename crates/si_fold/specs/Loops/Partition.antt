-- Numbers in classes that are split step by step: those of one class stand side by side in
-- an order, its marked ones first.
use Rattle.std.specs.Prelude.{◌≡◌, ◌≢◌, ◌↔◌, ◌⊎◌, ℕ, ◌<◌, ◌≤◌, ◌^◌, List, length, Contains}
use Rattle.std.specs.Prelude.{slice_index, slice_index_or}
use Rattle.si_fold.specs.declared.partition.Bounds.{Bounds}
use Rattle.si_fold.specs.declared.partition.Partition.{Partition}

-- the numbers in their order, for each its place there and its class, and where each class stands
pub record Shape : Type 0 where
  pub order : List ℕ
  pub place : List ℕ
  pub class : List ℕ
  pub bounds : List Bounds
  pub count : ℕ

abbrev pub shape : Partition → Shape
shape p = record {
  order = p.order.items;
  place = p.place.items;
  class = p.class.items;
  bounds = p.bounds.items;
  count = p.count;
}

abbrev pub no_bounds : Bounds
no_bounds = record { first = 0; mid = 0; past = 0 }

abbrev pub size : Shape → ℕ
size p = length p.class

abbrev pub class_at : Shape → ℕ → ℕ
class_at p s = slice_index p.class s

abbrev pub place_at : Shape → ℕ → ℕ
place_at p s = slice_index p.place s

abbrev pub number_at : Shape → ℕ → ℕ
number_at p i = slice_index p.order i

abbrev pub bounds_at : Shape → ℕ → Bounds
bounds_at p k = slice_index_or p.bounds k no_bounds

-- s stands at its place, within the bounds of its class
pub record Stands (p : Shape) (s : ℕ) : Type 0 where
  pub class_within : class_at p s < p.count
  pub from : (bounds_at p (class_at p s)).first ≤ place_at p s
  pub below : place_at p s < (bounds_at p (class_at p s)).past
  pub at : number_at p (place_at p s) ≡ s

-- place i has a number of class k
pub record Shows (p : Shape) (k i : ℕ) : Type 0 where
  pub within : number_at p i < size p
  pub class_is : class_at p (number_at p i) ≡ k
  pub place_is : place_at p (number_at p i) ≡ i

-- class k has places, some of them for its marked numbers
pub record IsBounded (p : Shape) (k : ℕ) : Type 0 where
  pub some : (bounds_at p k).first < (bounds_at p k).past
  pub from : (bounds_at p k).first ≤ (bounds_at p k).mid
  pub to : (bounds_at p k).mid ≤ (bounds_at p k).past
  pub up_to : (bounds_at p k).past ≤ size p

pub record IsPartition (p : Shape) : Type 0 where
  pub order_size : length p.order ≡ size p
  pub place_size : length p.place ≡ size p
  pub bounds_size : length p.bounds ≡ size p
  pub few : p.count ≤ size p
  pub small : size p < 2 ^ 32
  pub bounded : (k : ℕ) → k < p.count → IsBounded p k
  pub stands : (s : ℕ) → s < size p → Stands p s
  pub shows : (k i : ℕ) → k < p.count → (bounds_at p k).first ≤ i → i < (bounds_at p k).past
      → Shows p k i

abbrev pub IsMarked : Shape → ℕ → Type 0
IsMarked p s = place_at p s < (bounds_at p (class_at p s)).mid

abbrev pub IsUnmarked : Shape → Type 0
IsUnmarked p = (s : ℕ) → s < size p → IsMarked p s → ⊥

-- all numbers below n, in one class
pub record IsWhole (n : ℕ) (p : Shape) : Type 0 where
  pub partition : IsPartition p
  pub unmarked : IsUnmarked p
  pub size_is : size p ≡ n
  pub one : (s : ℕ) → s < n → class_at p s ≡ 0
  pub few : p.count ≤ 1

-- s is in class k
abbrev pub IsMember : Shape → ℕ → ℕ → Type 0
IsMember p k s = (s < size p) × (class_at p s ≡ k)

-- from p to q s is marked too
pub record Marks (p : Shape) (s : ℕ) (q : Shape) : Type 0 where
  pub partition : IsPartition q
  pub class_stays : q.class ≡ p.class
  pub count_stays : q.count ≡ p.count
  pub marked : (t : ℕ) → t < size p → IsMarked q t ↔ (IsMarked p t ⊎ (t ≡ s))

-- from p to q class k is split into its marked numbers and the others, and nothing in it is marked
pub record SplitsClass (p : Shape) (k : ℕ) (q : Shape) : Type 0 where
  pub partition : IsPartition q
  pub size_stays : size q ≡ size p
  pub more : p.count ≤ q.count
  pub others : (s : ℕ) → s < size p → class_at p s ≢ k → class_at q s ≡ class_at p s
  pub own : (s : ℕ) → s < size p → class_at p s ≡ k
      → (class_at q s ≡ k) ⊎ (p.count ≤ class_at q s)
  pub apart : (s t : ℕ) → s < size p → t < size p → class_at p s ≡ k → class_at p t ≡ k
      → class_at q s ≡ class_at q t → IsMarked p s → IsMarked p t
  pub together : (s t : ℕ) → s < size p → t < size p → class_at p s ≡ k → class_at p t ≡ k
      → IsMarked p s ↔ IsMarked p t → class_at q s ≡ class_at q t
  pub kept : (s : ℕ) → s < size p → class_at p s ≢ k → IsMarked q s ↔ IsMarked p s
  pub cleared : (s : ℕ) → s < size p → class_at p s ≡ k → IsMarked q s → ⊥

-- from p to q each class is split into those of its numbers that are in the list and the others;
-- one of the parts keeps the class, and the other has a new one
pub record Splits (p : Shape) (numbers : List ℕ) (q : Shape) : Type 0 where
  pub partition : IsPartition q
  pub unmarked : IsUnmarked q
  pub size_stays : size q ≡ size p
  pub more : p.count ≤ q.count
  pub refines : (s t : ℕ) → s < size p → t < size p → class_at q s ≡ class_at q t
      → class_at p s ≡ class_at p t
  pub fresh : (s : ℕ) → s < size p → (class_at q s ≡ class_at p s) ⊎ (p.count ≤ class_at q s)
  pub apart : (s t : ℕ) → s < size p → t < size p → class_at q s ≡ class_at q t
      → Contains numbers s → Contains numbers t
  pub together : (s t : ℕ) → s < size p → t < size p → class_at p s ≡ class_at p t
      → Contains numbers s ↔ Contains numbers t → class_at q s ≡ class_at q t
