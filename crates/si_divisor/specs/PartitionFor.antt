-- (field) The partition for an instance, and the first reason why there is none.
use Rattle.std.specs.Prelude.{◌≡◌, ℕ, ◌<◌, ◌⊎◌, Bool, true, false, List, [], ◌∷◌, length}
use Rattle.std.specs.Prelude.{slice_index_or, if◌then◌else◌, Option, MatchOption}
use Rattle.si_base.specs.Order.{IsFirst}
use Rattle.si_base.specs.Graph.{StateGraph}
use Rattle.si_base.specs.Codes.{CodedGraph}
use Rattle.si_base.specs.Sets.{IsIn}
use Rattle.si_insert.specs.declared.partition.Class.{Class}
use Rattle.si_insert.specs.declared.partition.Class.TheVariants.{Low, Rising, High, Falling}
use Rattle.si_insert.specs.Partition.{class_of, IsLawful}
use Rattle.si_divisor.specs.Targets.{IsLeast, AreSettled, IsUnforced, SettlesAtBoth, HaveTargets}
use Rattle.si_divisor.specs.Targets.{target}
use Rattle.si_divisor.specs.Targets.{forced_by}
use Rattle.si_divisor.specs.Switching.{Switches}
use Rattle.si_divisor.specs.declared.fault.NoPartition.{NoPartition}
use Rattle.si_divisor.specs.declared.fault.NoPartition.TheVariants.{NoMemory, Unforced}
use Rattle.si_divisor.specs.declared.fault.NoPartition.TheVariants.{Contradiction, LeavesForced}
use Rattle.si_divisor.specs.declared.fault.NoPartition.TheVariants.{Constant}

-- the states that settle at 1 and at 0, and those where the new signal rises and falls
pub record Sets : Type 0 where
  pub ones : List Bool
  pub zeros : List Bool
  pub plus : List Bool
  pub minus : List Bool

-- these are the sets of g for an instance that forces these values
pub record AreSets (g : StateGraph) (forced : Bool → ℕ → Bool) (x : Sets) : Type 0 where
  pub settled : AreSettled g forced x.ones x.zeros
  pub targets : HaveTargets g x.ones x.zeros
  pub rising : IsLeast g.states (Switches g (target x.ones) true) x.plus
  pub falling : IsLeast g.states (Switches g (target x.ones) false) x.minus

-- the new signal would have to switch at s, where the value isn't forced
abbrev pub LeavesAt : (Bool → ℕ → Bool) → List Bool → List Bool → ℕ → Type 0
LeavesAt forced plus minus s =
    (IsIn plus s × (forced true s ≡ false)) ⊎ (IsIn minus s × (forced false s ≡ false))

abbrev pub Leaves : (Bool → ℕ → Bool) → Sets → ℕ → Type 0
Leaves forced x s = LeavesAt forced x.plus x.minus s

abbrev pub HasSome : List Bool → Type 0
HasSome set = (s : ℕ) × IsIn set s

-- Rising where it rises, Falling where it falls, else by the target
abbrev pub class_for : Bool → Bool → Bool → Class
class_for plus minus one =
    if plus then Rising else (if minus then Falling else (if one then High else Low))

-- the class of s by the sets
abbrev pub class_by : Sets → ℕ → Class
class_by x s =
    class_for (slice_index_or x.plus s false) (slice_index_or x.minus s false)
    (slice_index_or x.ones s false)

-- the classes of the states of g for an instance that forces these values
pub record IsPartitionFor (g : StateGraph) (forced : Bool → ℕ → Bool) (classes : List Class)
    : Type 0 where
  pub sets : Sets
  pub are : AreSets g forced sets
  pub stays : (s : ℕ) → Leaves forced sets s → ⊥
  pub rises : HasSome sets.plus
  pub falls : HasSome sets.minus
  pub count : length classes ≡ g.states
  pub classes_are : (s : ℕ) → s < g.states → class_of classes s ≡ class_by sets s

-- there is no partition
abbrev pub HasNone : StateGraph → (Bool → ℕ → Bool) → Type 0
HasNone g forced = (classes : List Class) → IsPartitionFor g forced classes → ⊥

-- the answer is the partition for this value, which is lawful, or None exactly where there is none
abbrev pub Answers : CodedGraph → (ℕ → Bool → Bool) → Option (List Class) → Type 0
Answers c value found =
    MatchOption found (HasNone c.graph (forced_by value c))
    (λ p. IsPartitionFor c.graph (forced_by value c) p × IsLawful c.graph p)

abbrev pub state_place : ℕ → List ℕ
state_place s = s ∷ []

-- why there is none: the first that applies, each looked for at all states before the next
abbrev pub ShowsNone : StateGraph → (Bool → ℕ → Bool) → NoPartition → Type 0
ShowsNone g forced NoMemory = Unit {0}
ShowsNone g forced (Unforced s) =
    (ones : List Bool) × (zeros : List Bool) × AreSettled g forced ones zeros
    × IsFirst state_place (IsUnforced g ones zeros) s
ShowsNone g forced (Contradiction s) =
    (ones : List Bool) × (zeros : List Bool) × AreSettled g forced ones zeros
    × ((t : ℕ) → IsUnforced g ones zeros t → ⊥) × IsFirst state_place (SettlesAtBoth ones zeros) s
ShowsNone g forced (LeavesForced s) =
    (x : Sets) × AreSets g forced x × IsFirst state_place (Leaves forced x) s
ShowsNone g forced Constant =
    (x : Sets) × AreSets g forced x × ((s : ℕ) → Leaves forced x s → ⊥)
    × ((HasSome x.plus → ⊥) ⊎ (HasSome x.minus → ⊥))
