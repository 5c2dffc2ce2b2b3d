-- (field) The divisor that mapping inserts next.
use Rattle.std.specs.Prelude.{◌≡◌, ℕ, ◌<◌, List, [], ◌∷◌, slice_get}
use Rattle.std.specs.Prelude.{Option, Some, None, MatchOption}
use Rattle.si_base.specs.Order.{IsFirst}
use Rattle.si_base.specs.declared.graph.Signal.{Signal}
use Rattle.si_base.specs.Graph.{StateGraph, IsNonInput}
use Rattle.si_base.specs.Codes.{CodedGraph}
use Rattle.si_cell.specs.Library.{Library, Instance, instance_value}
use Rattle.si_conflicts.specs.Left.{LeavesConflicts}
use Rattle.si_divisor.specs.Divisors.{AreDivisors}
use Rattle.si_divisor.specs.PartitionFor.{IsPartitionFor}
use Rattle.si_divisor.specs.Targets.{forced_by}
use Rattle.si_insert.specs.declared.partition.Class.{Class}
use Rattle.si_insert.specs.Accepted.{IsAccepted}
use Rattle.si_insert.specs.Insertion.{Copy, IsInsertedGraph, coded}
use Rattle.si_match.specs.Fit.{first_fit}
use Rattle.si_match.specs.Weight.{weight_of}

-- a signal that the circuit drives and that no cell fits
pub record IsUnfit (c : CodedGraph) (library : Library) (z : ℕ) : Type 0 where
  pub driven : IsNonInput c.graph.signals z
  pub unfit : first_fit c library z ≡ None

-- the divisor at that place of the list of z
pub record IsDivisorAt (c : CodedGraph) (library : Library) (z place : ℕ) (divisor : Instance)
    : Type 0 where
  pub divisors : List Instance
  pub are : AreDivisors c library z divisors
  pub there : slice_get divisors place ≡ Some divisor

-- the inserted graph of the partition has weight n; the new signal's name makes no difference
pub record LeavesWeight (c : CodedGraph) (library : Library) (classes : List Class) (n : ℕ)
    : Type 0 where
  pub new : Signal
  pub copies : List Copy
  pub graph : StateGraph
  pub insertion : IsInsertedGraph c.graph classes new copies graph
  pub weighs : weight_of (coded c copies graph) library ≡ n

-- a signal, the place of one of its divisors, the partition for that, and the weight that this
-- leaves
pub record Choice : Type 0 where
  pub signal : ℕ
  pub place : ℕ
  pub classes : List Class
  pub weight : ℕ

-- a divisor of an unfitted signal serves: its partition is accepted, leaves no conflict, and lowers
-- the weight
pub record Serves (c : CodedGraph) (library : Library) (x : Choice) : Type 0 where
  pub unfit : IsUnfit c library x.signal
  pub divisor : Instance
  pub at : IsDivisorAt c library x.signal x.place divisor
  pub are : IsPartitionFor c.graph (forced_by (instance_value library divisor) c) x.classes
  pub accepted : IsAccepted c.graph x.classes
  pub free : LeavesConflicts c x.classes 0
  pub leaves : LeavesWeight c library x.classes x.weight
  pub lower : x.weight < weight_of c library

-- less weight comes first, then the order of signals, then that of their divisors
abbrev pub choice_place : Choice → List ℕ
choice_place x = x.weight ∷ x.signal ∷ x.place ∷ []

-- of those that serve the one that leaves the least weight, the first among equals
abbrev pub IsBest : CodedGraph → Library → Choice → Type 0
IsBest c library x = IsFirst choice_place (Serves c library) x

-- no divisor of an unfitted signal serves
abbrev pub NoneServes : CodedGraph → Library → Type 0
NoneServes c library = (x : Choice) → Serves c library x → ⊥

-- the partition for the best divisor, or None where no divisor serves
abbrev pub IsBestPartition : CodedGraph → Library → Option (List Class) → Type 0
IsBestPartition c library found = MatchOption found (NoneServes c library)
    (λ classes. (x : Choice) × IsBest c library x × (x.classes ≡ classes))
