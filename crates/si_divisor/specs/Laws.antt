-- (law) The laws of the partition for an instance, one word each.
use Rattle.std.specs.Prelude.{◌≡◌, ℕ, ◌<◌, ◌≤◌, ◌↔◌, ◌⊎◌, Bool, true, false, List, length}
use Rattle.si_base.specs.declared.graph.Signal.{Signal}
use Rattle.si_base.specs.Limits.{max_signals, max_states}
use Rattle.si_base.specs.Graph.{StateGraph, IsGraph}
use Rattle.si_base.specs.Codes.{CodedGraph, IsCoded, code}
use Rattle.si_base.specs.Proper.{IsProper, Loss}
use Rattle.si_base.specs.Sets.{IsIn}
use Rattle.si_insert.specs.declared.partition.Class.{Class}
use Rattle.si_insert.specs.declared.partition.Class.TheVariants.{Low, Rising, High, Falling}
use Rattle.si_insert.specs.Partition.{class_of, IsLawful}
use Rattle.si_insert.specs.Insertion.{Copy, IsInsertedGraph, has_copy, coded}
use Rattle.si_insert.specs.Accepted.{IsAccepted, copy_count, Delay}
use Rattle.si_insert.specs.Loops.Tests.{InputWaits, WaitsAfter}
use Rattle.si_cell.specs.Library.{Library, Instance, IsLibrary, IsInstance, instance_value}
use Rattle.si_match.specs.Fit.{IsOver, Fits}
use Rattle.si_divisor.specs.declared.fault.NoPartition.{NoPartition}
use Rattle.si_divisor.specs.declared.fault.NoPartition.TheVariants.{NoMemory}
use Rattle.si_divisor.specs.declared.function.Function.{Function}
use Rattle.si_divisor.specs.Functions.{IsFunction}
use Rattle.si_divisor.specs.Targets.{forced_by, target}
use Rattle.si_divisor.specs.Switching.{Switches}
use Rattle.si_divisor.specs.PartitionFor.{IsPartitionFor, ShowsNone}

-- the target of the states of that class
abbrev pub to_one : Class → Bool
to_one Low = false
to_one Rising = true
to_one High = true
to_one Falling = false

-- the sets and targets that classes give
pub record AreClassed (g : StateGraph) (classes : List Class) (target : ℕ → Bool)
    (plus minus : List Bool) : Type 0 where
  pub plus_is : (s : ℕ) → s < g.states → IsIn plus s ↔ (class_of classes s ≡ Rising)
  pub minus_is : (s : ℕ) → s < g.states → IsIn minus s ↔ (class_of classes s ≡ Falling)
  pub target_is : (s : ℕ) → s < g.states → target s ≡ to_one (class_of classes s)

-- lawful, no input waits, and no excitation is lost
pub record Passes (g : StateGraph) (classes : List Class) : Type 0 where
  pub lawful : IsLawful g classes
  pub inputs : (d : Delay) → InputWaits g classes d → ⊥
  pub losses : (b : Loss) → WaitsAfter g classes b → ⊥

-- a class for each state, some Rising, some Falling, and both sets meet the rules
pub record MeetRules (g : StateGraph) (classes : List Class) (target : ℕ → Bool)
    (plus minus : List Bool) : Type 0 where
  pub count : length classes ≡ g.states
  pub rises : (s : ℕ) × (s < g.states) × IsIn plus s
  pub falls : (s : ℕ) × (s < g.states) × IsIn minus s
  pub rising : Switches g target true plus
  pub falling : Switches g target false minus

-- the rules are just what acceptance asks, sizes aside
abbrev pub RulesAreAcceptance : Type 0
RulesAreAcceptance =
    (g : StateGraph) (classes : List Class) (target : ℕ → Bool) (plus minus : List Bool)
    → IsGraph g → AreClassed g classes target plus minus
    → Passes g classes ↔ MeetRules g classes target plus minus

abbrev pub PartitionsAreLawful : Type 0
PartitionsAreLawful =
    (g : StateGraph) (forced : Bool → ℕ → Bool) (classes : List Class) → IsGraph g
    → IsPartitionFor g forced classes → IsLawful g classes

-- a partition for an instance is accepted, unless it or the graph is too large
abbrev pub PartitionsAreAccepted : Type 0
PartitionsAreAccepted =
    (c : CodedGraph) (forced : Bool → ℕ → Bool) (classes : List Class) → IsCoded c
    → IsProper c.graph → IsPartitionFor c.graph forced classes
    → IsAccepted c.graph classes
    ↔ ((copy_count classes ≤ max_states) × (length c.graph.signals < max_signals))

-- the one is Rising where the other is, and Falling where the other is
abbrev pub SwitchesWithin : StateGraph → List Class → List Class → Type 0
SwitchesWithin g classes others =
    (s : ℕ) → s < g.states → ((class_of classes s ≡ Rising) → (class_of others s ≡ Rising))
    × ((class_of classes s ≡ Falling) → (class_of others s ≡ Falling))

-- each accepted partition with the same targets switches wherever this one does
abbrev pub PartitionsAreLeast : Type 0
PartitionsAreLeast =
    (c : CodedGraph) (forced : Bool → ℕ → Bool) (classes others : List Class) → IsCoded c
    → IsProper c.graph → (p : IsPartitionFor c.graph forced classes)
    → IsAccepted c.graph others
    → ((s : ℕ) → s < c.graph.states → target p.sets.ones s ≡ to_one (class_of others s))
    → SwitchesWithin c.graph classes others

-- there is one partition, or one reason
abbrev pub PartitionsAreUnique : Type 0
PartitionsAreUnique =
    (g : StateGraph) (forced : Bool → ℕ → Bool) (xs ys : List Class)
    → IsPartitionFor g forced xs → IsPartitionFor g forced ys → xs ≡ ys

-- why there is none, and not for want of memory
pub record IsReason (g : StateGraph) (forced : Bool → ℕ → Bool) (why : NoPartition) : Type 0 where
  pub known : why ≡ NoMemory → ⊥
  pub shows : ShowsNone g forced why

abbrev pub ReasonsAreUnique : Type 0
ReasonsAreUnique =
    (g : StateGraph) (forced : Bool → ℕ → Bool) (x y : NoPartition)
    → IsReason g forced x → IsReason g forced y → x ≡ y

abbrev pub ReasonsExclude : Type 0
ReasonsExclude =
    (g : StateGraph) (forced : Bool → ℕ → Bool) (classes : List Class) (why : NoPartition)
    → IsReason g forced why → IsPartitionFor g forced classes → ⊥

-- there is a partition or a reason
abbrev pub PartitionsExist : Type 0
PartitionsExist =
    (g : StateGraph) (forced : Bool → ℕ → Bool) → IsGraph g
    → ((classes : List Class) × IsPartitionFor g forced classes)
    ⊎ ((why : NoPartition) × IsReason g forced why)

-- ---- of instances
-- an output that is 1 keeps the value from falling below what it is at 0
abbrev pub IsUnate : (ℕ → Bool → Bool) → Type 0
IsUnate value = (k : ℕ) → value k false ≡ true → value k true ≡ true

abbrev pub InstancesAreUnate : Type 0
InstancesAreUnate =
    (library : Library) (i : Instance) → IsLibrary library → IsInstance library i
    → IsUnate (instance_value library i)

-- at each copy of a state the value is the target of the state
abbrev pub InstancesFit : Type 0
InstancesFit =
    (c : CodedGraph) (value : ℕ → Bool → Bool) (classes : List Class) → IsUnate value
    → IsPartitionFor c.graph (forced_by value c) classes
    → (s : ℕ) (b : Bool) → s < c.graph.states → has_copy (class_of classes s) b ≡ true
    → value (code c s) b ≡ to_one (class_of classes s)

-- in the inserted graph the new signal fits the cell of the instance, by the same literals
abbrev pub NewSignalFits : Type 0
NewSignalFits =
    (c : CodedGraph) (library : Library) (i : Instance) (classes : List Class) (new : Signal)
    (copies : List Copy) (h : StateGraph) → IsCoded c → IsLibrary library → IsOver c library i
    → IsPartitionFor c.graph (forced_by (instance_value library i) c) classes
    → IsInsertedGraph c.graph classes new copies h
    → Fits (coded c copies h) library (length c.graph.signals) i

-- instances that compute one function have one partition, or none
abbrev pub FunctionsDecide : Type 0
FunctionsDecide =
    (library : Library) (c : CodedGraph) (i k : Instance) (f : Function) (classes : List Class)
    → IsGraph c.graph → IsFunction library i f → IsFunction library k f
    → IsPartitionFor c.graph (forced_by (instance_value library i) c) classes
    → IsPartitionFor c.graph (forced_by (instance_value library k) c) classes
