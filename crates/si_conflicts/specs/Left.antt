-- (field) The conflicts that an insertion leaves.
use Rattle.std.specs.Prelude.{ℕ, Bool, true, false, not, List}
use Rattle.si_base.specs.declared.graph.Signal.{Signal}
use Rattle.si_base.specs.Graph.{StateGraph}
use Rattle.si_base.specs.Codes.{CodedGraph}
use Rattle.si_insert.specs.declared.partition.Class.{Class}
use Rattle.si_insert.specs.declared.partition.Class.TheVariants.{Low, High}
use Rattle.si_insert.specs.Partition.{class_of}
use Rattle.si_insert.specs.Insertion.{Copy, IsInsertedGraph, coded}
use Rattle.si_conflicts.specs.Conflicts.{HasConflicts}

-- the inserted graph of the partition has n conflicts; the new signal's name makes no difference
pub record LeavesConflicts (c : CodedGraph) (classes : List Class) (n : ℕ) : Type 0 where
  pub new : Signal
  pub copies : List Copy
  pub graph : StateGraph
  pub insertion : IsInsertedGraph c.graph classes new copies graph
  pub counted : HasConflicts (coded c copies graph) n

-- no copies of two states of these classes have one value of the new signal
abbrev pub are_parted : Class → Class → Bool
are_parted Low High = true
are_parted High Low = true
are_parted c d = false

-- some copies of the states of a conflict have one: a conflict stays
abbrev pub stays : List Class → ℕ × ℕ → Bool
stays classes pair = not (are_parted (class_of classes pair.0) (class_of classes pair.1))
