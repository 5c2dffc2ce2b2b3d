-- Where a cell that reads a new signal hasn't the next value of another one: the values that its
-- places have at states, and truth tables over them.
use Rattle.std.specs.Prelude.{◌≡◌, ℕ, ◌<◌, ◌&&◌, ◌↔◌, ◌⊎◌, not, Bool, true, false, All, Contains}
use Rattle.std.specs.Prelude.{List, [], ◌∷◌, ◌++◌, length, map, slice_index, slice_index_or}
use mathlib.Core.Bool.{beq}
use Rattle.si_base.specs.Bits.{bit}
use Rattle.si_base.specs.Codes.{CodedGraph, code, next_value}
use Rattle.si_cell.specs.Library.{code_of}
use Rattle.si_cell.specs.Limits.{table_codes}
use Rattle.si_bounds.specs.declared.points.Places.{Places}
use Rattle.si_bounds.specs.declared.points.Points.{Points}
use Rattle.si_bounds.specs.declared.points.Missed.{Missed}

-- the signals at the places between that of z, the first, and that of the new signal, the last: the
-- chosen ones, and z where there are no more
abbrev pub places_of : ℕ → List ℕ → Places
places_of z chosen = record {
  first = slice_index_or chosen 0 z;
  second = slice_index_or chosen 1 z;
  third = slice_index_or chosen 2 z;
}

-- there are more signals
pub record AreSmall (count : ℕ) (places : Places) : Type 0 where
  pub first : places.first < count
  pub second : places.second < count
  pub third : places.third < count

-- the values of z and of the signals at the places between, where a state has the code
abbrev pub values_at : ℕ → Places → ℕ → List Bool
values_at z places k =
    map (bit k) (z ∷ places.first ∷ places.second ∷ places.third ∷ [])

-- these, and a value at the last place, as a code of the places
abbrev pub with_last : ℕ → Places → ℕ → Bool → ℕ
with_last z places k last = code_of (values_at z places k ++ last ∷ [])

-- the point of a state: there the last place has the next value of z
abbrev pub point_of : CodedGraph → ℕ → Places → ℕ → ℕ
point_of c z places s = with_last z places (code c s) (next_value c s z)

-- the points of all states, and the set of them
pub record ArePoints (c : CodedGraph) (z : ℕ) (places : Places) (points : Points) : Type 0 where
  pub count : length points.at.items ≡ c.graph.states
  pub each : (s : ℕ) → s < c.graph.states
      → slice_index points.at.items s ≡ point_of c z places s
  pub small : All (λ m. m < table_codes) points.at.items
  pub seen : (m : ℕ) → (bit points.seen m ≡ true)
      ↔ ((s : ℕ) × (s < c.graph.states) × (point_of c z places s ≡ m))

-- the table's value where the new signal, at the last place, has the value `new` isn't `next`
abbrev pub is_missed : ℕ → Bool → List Bool → Bool → Bool
is_missed table new values next = not (beq (bit table (code_of (values ++ new ∷ []))) next)

-- the table hasn't the next value of z at the state, where the new signal has the value
abbrev pub misses : CodedGraph → ℕ → Places → ℕ → Bool → ℕ → Bool
misses c z places table new s =
    is_missed table new (values_at z places (code c s)) (next_value c s z)

-- the set has the points that the table misses where the new signal has that value
abbrev pub AreMissedWhere : ℕ → Bool → ℕ → Type 0
AreMissedWhere table new set = (values : List Bool) (next : Bool) → length values ≡ 4
    → bit set (code_of (values ++ next ∷ [])) ≡ is_missed table new values next

-- the sets have those of these points that the table misses, where the new signal is 0 and 1
pub record AreMissed (table seen : ℕ) (missed : Missed) : Type 0 where
  pub at_zero : (values : List Bool) (next : Bool) → length values ≡ 4
      → bit missed.at_zero (code_of (values ++ next ∷ []))
      ≡ (bit seen (code_of (values ++ next ∷ [])) && is_missed table false values next)
  pub at_one : (values : List Bool) (next : Bool) → length values ≡ 4
      → bit missed.at_one (code_of (values ++ next ∷ []))
      ≡ (bit seen (code_of (values ++ next ∷ [])) && is_missed table true values next)
  pub zero_seen : (m : ℕ) → bit missed.at_zero m ≡ true → bit seen m ≡ true

-- some point is missed at both values
abbrev pub Clashes : Missed → Type 0
Clashes missed = (m : ℕ) × (bit missed.at_zero m ≡ true) × (bit missed.at_one m ≡ true)

-- the one has no points that the other hasn't
pub record MissesLess (one other : Missed) : Type 0 where
  pub at_zero : (m : ℕ) → bit one.at_zero m ≡ true → bit other.at_zero m ≡ true
  pub at_one : (m : ℕ) → bit one.at_one m ≡ true → bit other.at_one m ≡ true

-- some of these have no points that it hasn't
abbrev pub SomeMissLess : List Missed → Missed → Type 0
SomeMissLess least missed = (less : Missed) × Contains least less × MissesLess less missed

-- what the table misses of these points clashes, or some of these miss no more
pub record IsMissedTold (table seen : ℕ) (least : List Missed) : Type 0 where
  pub missed : Missed
  pub are : AreMissed table seen missed
  pub told : Clashes missed ⊎ SomeMissLess least missed

-- it is what one of the tables misses of these points
abbrev pub IsMissedByOne : List ℕ → ℕ → Missed → Type 0
IsMissedByOne tables seen missed = (t : ℕ) × Contains tables t × AreMissed t seen missed

-- the table's value doesn't depend on that place
abbrev pub IsBlind : ℕ → ℕ → Type 0
IsBlind table place = (before after : List Bool) → length before ≡ place → length (before ++ after) ≡ 4
    → bit table (code_of (before ++ false ∷ after)) ≡ bit table (code_of (before ++ true ∷ after))
