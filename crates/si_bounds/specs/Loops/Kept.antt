-- What signals that wait for a new one keep of their triggers, and what they add to the weight at
-- least.
use Rattle.std.specs.Prelude.{ℕ, ◌≡◌, ◌≢◌, ◌+◌, ◌<◌, ◌≤◌, ◌↔◌, Bool, true, false, List, [], ◌∷◌}
use Rattle.std.specs.Prelude.{length}
use Rattle.si_base.specs.declared.graph.Edge.{Edge}
use Rattle.si_base.specs.Bits.{bit}
use Rattle.si_base.specs.Codes.{CodedGraph, next_value}
use Rattle.si_base.specs.Graph.{Step, arc}
use Rattle.si_base.specs.declared.ids.Event.{Event}
use Rattle.si_insert.specs.declared.partition.Class.{Class}
use Rattle.si_insert.specs.declared.partition.Class.TheVariants.{Low, Rising, High, Falling}
use Rattle.si_insert.specs.Partition.{class_of}
use Rattle.si_match.specs.Weight.{size_from}

-- the new signal switches at no state of the class
abbrev pub is_stable : Class → Bool
is_stable Low = true
is_stable Rising = false
is_stable High = true
is_stable Falling = false

-- the arc, of another signal than z, leads between states with different next values of z, and
-- the new signal switches at neither
pub record KeepsTrigger (c : CodedGraph) (classes : List Class) (z : ℕ) (a : Edge) : Type 0 where
  pub other : a.event.sig ≢ z
  pub changes : next_value c a.to z ≢ next_value c a.from z
  pub from_stable : is_stable (class_of classes a.from) ≡ true
  pub to_stable : is_stable (class_of classes a.to) ≡ true

-- some arc of signal i is such an arc: i stays a trigger of z
pub record IsKept (c : CodedGraph) (classes : List Class) (z i : ℕ) : Type 0 where
  pub from : ℕ
  pub event : Event
  pub to : ℕ
  pub step : Step c.graph from event to
  pub signal : event.sig ≡ i
  pub keeps : KeepsTrigger c classes z (arc from event to)

-- the set has all those signals, and no other
abbrev pub AreAllKept : CodedGraph → List Class → ℕ → ℕ → Type 0
AreAllKept c classes z set = (i : ℕ) → (bit set i ≡ true) ↔ IsKept c classes z i

-- what z adds at least if it waits and no cell has more pins than `most`. Where the kept triggers
-- and the new signal are more, no cell can read them, and it adds one more than they are; else
-- nothing is told.
pub record IsKeptLeast (c : CodedGraph) (classes : List Class) (most z least : ℕ) : Type 0 where
  pub set : ℕ
  pub kept : AreAllKept c classes z set
  pub few : size_from (length c.graph.signals) 0 set < most → least ≡ 0
  pub many : most ≤ size_from (length c.graph.signals) 0 set
      → least ≡ 2 + size_from (length c.graph.signals) 0 set

-- what is told of z, of which `known` is known if it never waits. Of one that never waits just
-- that is told, of one that waits what its kept triggers tell; and nothing where nothing is known.
pub record IsTold (c : CodedGraph) (classes : List Class) (most z : ℕ) (waits : Bool)
    (known told : ℕ) : Type 0 where
  pub never : waits ≡ false → told ≡ known
  pub nothing : known ≡ 0 → told ≡ 0
  pub kept : waits ≡ true → 0 < known → IsKeptLeast c classes most z told

-- what is told of the signals together, from signal i on
abbrev pub AddUpTo : CodedGraph → List Class → (most waiting i : ℕ) → List ℕ → ℕ → Type 0
AddUpTo c classes most waiting i [] sum = sum ≡ 0
AddUpTo c classes most waiting i (known ∷ least) sum =
    (told : ℕ) × (rest : ℕ) × IsTold c classes most i (bit waiting i) known told
    × AddUpTo c classes most waiting (i + 1) least rest × (sum ≡ told + rest)
