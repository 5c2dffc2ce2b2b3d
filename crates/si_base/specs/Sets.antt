-- (field) Sets of states, each a list that says of each state whether it is in the set.
use Rattle.std.specs.Prelude.{◌≡◌, ℕ, ◌⊎◌, ◌+◌, ◌<◌, ◌≤◌, ◌/◌, ◌%◌, ◌^◌, Bool, true, false, List}
use Rattle.std.specs.Prelude.{length, map, slice_index, slice_index_or}
use Rattle.std.specs.List.{range_with_len}
use Rattle.si_base.specs.Bits.{bit}

-- the flag of a state, where each word has the flags of 64 states, from its lowest bit up
abbrev pub flag : List ℕ → ℕ → Bool
flag words s = bit (slice_index words (s / 64)) (s % 64)

-- no flag is set from this state on
abbrev pub HasNoFlagFrom : List ℕ → ℕ → Type 0
HasNoFlagFrom words states = (s : ℕ) → states ≤ s → flag words s ≡ false

-- the flag t is the first that is set from s on
pub record IsFirstFlag (words : List ℕ) (s t : ℕ) : Type 0 where
  pub from : s ≤ t
  pub set : flag words t ≡ true
  pub first : (u : ℕ) → s ≤ u → flag words u ≡ true → t ≤ u

-- words with the flags of the states below, and no more
pub record AreFlags (states : ℕ) (words : List ℕ) : Type 0 where
  pub few : states < 2 ^ 32
  pub size : length words ≡ (states + 63) / 64
  pub none : HasNoFlagFrom words states

-- the flags of the first states, so many
abbrev pub flags_of : ℕ → List ℕ → List Bool
flags_of states words = map (flag words) (range_with_len 0 states)

-- each flag of the words is set in the others
abbrev pub AreWithin : List ℕ → List ℕ → Type 0
AreWithin words others = (s : ℕ) → flag words s ≡ true → flag others s ≡ true

-- no flag is set both in the words and in the others
abbrev pub AreApart : List ℕ → List ℕ → Type 0
AreApart words others = (s : ℕ) → flag words s ≡ true → flag others s ≡ true → ⊥

-- whether the state is in the set
abbrev pub is_in : List Bool → ℕ → Bool
is_in set s = slice_index_or set s false

abbrev pub IsIn : List Bool → ℕ → Type 0
IsIn set s = slice_index_or set s false ≡ true

-- each state of the one set is in the other
abbrev pub IsSubset : List Bool → List Bool → Type 0
IsSubset one other = (s : ℕ) → IsIn one s → IsIn other s

-- a set of the size of the one, with just the states of the one and of the other
pub record IsUnion (one other both : List Bool) : Type 0 where
  pub size : length both ≡ length one
  pub has_one : IsSubset one both
  pub has_other : IsSubset other both
  pub no_more : (s : ℕ) → IsIn both s → IsIn one s ⊎ IsIn other s

abbrev pub IsDisjoint : List Bool → List Bool → Type 0
IsDisjoint one other = (s : ℕ) → IsIn one s → IsIn other s → ⊥

-- t is the least state of the set at or past s
pub record IsFirstFrom (set : List Bool) (s t : ℕ) : Type 0 where
  pub from : s ≤ t
  pub inside : IsIn set t
  pub first : (u : ℕ) → s ≤ u → IsIn set u → t ≤ u

-- no state of the set is at or past s
abbrev pub HasNoneFrom : List Bool → ℕ → Type 0
HasNoneFrom set s = (t : ℕ) → s ≤ t → IsIn set t → ⊥
