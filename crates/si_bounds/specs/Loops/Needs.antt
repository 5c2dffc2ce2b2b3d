-- What a signal that no cell fits, and that never waits for a new one, needs of the classes of
-- states, so that some cell fits it afterwards.
use Rattle.std.specs.Prelude.{◌≡◌, ℕ, ◌<◌, ◌↔◌, ◌⊎◌, Bool, true, false, List}
use Rattle.std.specs.Prelude.{◌++◌, length, All, Contains, None, is_some, slice_index}
use Rattle.si_base.specs.declared.graph.Signal.{Signal}
use Rattle.si_base.specs.Bits.{bit}
use Rattle.si_base.specs.Codes.{CodedGraph, IsCoded}
use Rattle.si_base.specs.Graph.{StateGraph}
use Rattle.si_base.specs.Sets.{IsIn, is_in}
use Rattle.si_cell.specs.Library.{Library}
use Rattle.si_insert.specs.declared.partition.Class.{Class}
use Rattle.si_insert.specs.declared.partition.Class.TheVariants.{Low, High}
use Rattle.si_insert.specs.Insertion.{Copy, IsInsertedGraph, coded, has_copy}
use Rattle.si_insert.specs.Partition.{IsLawful, class_of}
use Rattle.si_match.specs.Fit.{first_fit}
use Rattle.si_bounds.specs.Loops.Points.{AreSmall, misses, places_of}
use Rattle.si_bounds.specs.Loops.Waiting.{NeverWaits}
use Rattle.si_bounds.specs.declared.needs.Need.{Need}
use Rattle.si_bounds.specs.declared.points.Missed.{Missed}
use Rattle.si_bounds.specs.declared.points.Places.{Places}

-- ---- needs

-- it asks none but these states to be High, and none but those to be Low
pub record AsksWithin (need : Need) (high low : ℕ → Bool) : Type 0 where
  pub asks_high : (s : ℕ) → IsIn need.high s → high s ≡ true
  pub asks_low : (s : ℕ) → IsIn need.low s → low s ≡ true

-- the one asks no states to be High, or Low, that the other doesn't
abbrev pub AsksLess : Need → Need → Type 0
AsksLess one other = AsksWithin one (is_in other.high) (is_in other.low)

-- some need of the list asks no more than that one
abbrev pub SomeAskLess : List Need → Need → Type 0
SomeAskLess needs need = (less : Need) × Contains needs less × AsksLess less need

-- some need of the list does
abbrev pub SomeAsksWithin : List Need → (ℕ → Bool) → (ℕ → Bool) → Type 0
SomeAsksWithin needs high low = (need : Need) × Contains needs need × AsksWithin need high low

abbrev pub is_high : Class → Bool
is_high High = true
is_high other = false

abbrev pub is_low : Class → Bool
is_low Low = true
is_low other = false

-- the classes make High and Low what some need of the list asks for
abbrev pub SomeIsMet : List Need → List Class → Type 0
SomeIsMet needs classes =
    SomeAsksWithin needs (λ s. is_high (class_of classes s)) (λ s. is_low (class_of classes s))

-- both sets of the need are sets of the first states, so many
pub record HasSize (count : ℕ) (need : Need) : Type 0 where
  pub high : length need.high ≡ count
  pub low : length need.low ≡ count

-- where no cell fits z, some cell fits it after an insertion for which it never waits exactly if
-- the classes meet one of the needs
pub record AreNeeds (c : CodedGraph) (library : Library) (z : ℕ) (needs : List Need) : Type 0 where
  pub sizes : All (HasSize c.graph.states) needs
  pub fits : first_fit c library z ≡ None
      → (classes : List Class) (new : Signal) (copies : List Copy) (h : StateGraph)
      → IsLawful c.graph classes → IsInsertedGraph c.graph classes new copies h
      → IsCoded (coded c copies h) → NeverWaits c.graph classes z
      → (is_some (first_fit (coded c copies h) library z) ≡ true) ↔ SomeIsMet needs classes

-- the sets have the High states of the classes, and the Low ones
pub record AreStable (classes : List Class) (high low : List Bool) : Type 0 where
  pub high_count : length high ≡ length classes
  pub low_count : length low ≡ length classes
  pub are_high : (s : ℕ) → s < length classes → is_in high s ≡ is_high (class_of classes s)
  pub are_low : (s : ℕ) → s < length classes → is_in low s ≡ is_low (class_of classes s)

-- ---- what tables need

-- the set has the states whose points, which the list has, are in that set
pub record AreStatesAt (points : List ℕ) (set : ℕ) (states : List Bool) : Type 0 where
  pub count : length states ≡ length points
  pub each : (s : ℕ) → s < length points → is_in states s ≡ bit set (slice_index points s)

-- it asks states to be High, and Low, whose points are missed where the new signal is 0, and 1
pub record IsNeedAt (points : List ℕ) (missed : Missed) (need : Need) : Type 0 where
  pub high : AreStatesAt points missed.at_zero need.high
  pub low : AreStatesAt points missed.at_one need.low

-- it asks just those states to be High at which the table hasn't the next value where the new
-- signal is 0, and those to be Low at which it hasn't where that is 1
pub record IsNeedOf (c : CodedGraph) (z : ℕ) (places : Places) (table : ℕ) (need : Need) : Type 0
  where
    pub size : HasSize c.graph.states need
    pub high : (s : ℕ) → s < c.graph.states → is_in need.high s ≡ misses c z places table false s
    pub low : (s : ℕ) → s < c.graph.states → is_in need.low s ≡ misses c z places table true s

-- it is the need of one of the tables, with signals at its places
pub record IsNeedOfOne (c : CodedGraph) (z : ℕ) (tables : List ℕ) (need : Need) : Type 0 where
  pub table : ℕ
  pub places : Places
  pub there : Contains tables table
  pub small : AreSmall (length c.graph.signals) places
  pub is : IsNeedOf c z places table need

-- at some state the table hasn't the next value whatever the value of the new signal
abbrev pub NeverHas : CodedGraph → ℕ → Places → ℕ → Type 0
NeverHas c z places table = (s : ℕ) × (s < c.graph.states)
    × (misses c z places table false s ≡ true) × (misses c z places table true s ≡ true)

-- that is so, or some need of the list asks for no more than that of the table
abbrev pub IsTold : CodedGraph → ℕ → Places → List Need → ℕ → Type 0
IsTold c z places needs table = NeverHas c z places table
    ⊎ SomeAsksWithin needs (misses c z places table false) (misses c z places table true)

-- at each copy of each state the table has the next value
abbrev pub Suits : CodedGraph → List Class → ℕ → Places → ℕ → Type 0
Suits c classes z places table = (s : ℕ) (value : Bool) → s < c.graph.states
    → has_copy (class_of classes s) value ≡ true → misses c z places table value s ≡ false

-- classes that the table suits, with these signals at its places, meet one of the needs
abbrev pub IsToldOf : CodedGraph → ℕ → List Need → List ℕ → ℕ → Type 0
IsToldOf c z needs signals table =
    (classes : List Class) → Suits c classes z (places_of z signals) table → SomeIsMet needs classes

-- that is so of each table, whichever signals, so many, are chosen further
abbrev pub AreToldOver : CodedGraph → ℕ → List ℕ → List ℕ → ℕ → List Need → Type 0
AreToldOver c z tables chosen more needs = (rest : List ℕ) → length rest ≡ more
    → All (λ y. y < length c.graph.signals) rest
    → (t : ℕ) → Contains tables t → IsToldOf c z needs (chosen ++ rest) t

-- the needs of the one list ask for no more than those of the other
abbrev pub AskNoMore : List Need → List Need → Type 0
AskNoMore needs others = (high low : ℕ → Bool) → SomeAsksWithin others high low → SomeAsksWithin needs high low
