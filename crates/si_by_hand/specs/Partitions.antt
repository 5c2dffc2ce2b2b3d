-- (command) The partition of a graph for the gate of a new signal, or the reason why there is none.
use Rattle.std.specs.Prelude.{◌≡◌, ℕ, List, [], ◌∷◌, ◌++◌, Ok, Err}
use Rattle.si_base.specs.Codes.{CodedGraph}
use Rattle.si_base.specs.Netlist.{Gate}
use Rattle.si_base.specs.declared.graph.Signal.{Signal}
use Rattle.si_divisor.specs.PartitionFor.{IsPartitionFor, ShowsNone}
use Rattle.si_divisor.specs.declared.fault.NoPartition.{NoPartition}
use Rattle.si_divisor.specs.declared.fault.NoPartition.TheVariants as none
use Rattle.si_insert.specs.Accepted.{IsAccepted, ShowsRejected}
use Rattle.si_insert.specs.Insertion.{new_signal}
use Rattle.si_insert.specs.declared.accept.Rejected.{Rejected as RejectedBy}
use Rattle.si_insert.specs.declared.accept.Rejected.TheVariants as why
use Rattle.si_insert.specs.declared.partition.Class.{Class}
use Rattle.si_refusals.specs.Refusal.{TextRefusal, Rejected}
use Rattle.si_refusals.specs.Stages.{Stage}
use Rattle.si_refusals.specs.declared.rejection.NamedRejection.{NamedRejection}
use Rattle.si_refusals.specs.declared.rejection.NamedRejection.TheVariants.{Unforced, Contrary}
use Rattle.si_refusals.specs.declared.rejection.NamedRejection.TheVariants.{Leaves, Constant}
use Rattle.si_refusals.specs.declared.rejection.NamedRejection.TheVariants.{Delays, Breaks}
use Rattle.si_refusals.specs.declared.rejection.NamedRejection.TheVariants.{TooLarge}
use Rattle.si_sg.specs.CanonicalText.{event_word, state_at}
use Rattle.si_by_hand.specs.Forcing.{forced_at}
use Rattle.si_by_hand.specs.GateText.{NewGate}

-- why there is no partition, where the states have these names
abbrev pub IsNoneNamed : (states : List (List ℕ)) → NoPartition → NamedRejection → Type 0
IsNoneNamed states none.NoMemory reason = ⊥
IsNoneNamed states (none.Unforced s) reason = reason ≡ Unforced (state_at states s)
IsNoneNamed states (none.Contradiction s) reason = reason ≡ Contrary (state_at states s)
IsNoneNamed states (none.LeavesForced s) reason = reason ≡ Leaves (state_at states s)
IsNoneNamed states none.Constant reason = reason ≡ Constant

-- why a partition isn't accepted, as the first insertion, by the words of events of these signals
abbrev pub IsRefusedSo : (states : List (List ℕ)) → List Signal → RejectedBy → NamedRejection
    → Type 0
IsRefusedSo states signals (why.DelaysInput s e) reason =
    reason ≡ Delays 1 (state_at states s) (event_word signals e)
IsRefusedSo states signals (why.BreaksPersistency s lost by) reason =
    reason ≡ Breaks 1 (state_at states s) (event_word signals lost) (event_word signals by)
IsRefusedSo states signals (why.TooLarge count) reason = reason ≡ TooLarge 1 count
IsRefusedSo states signals why.NoCodeBit reason = ⊥

-- the partition for the gate, which is accepted
pub record IsAcceptedFor (c : CodedGraph) (gate : Gate) (classes : List Class) : Type 0 where
  pub partition : IsPartitionFor c.graph (forced_at gate c) classes
  pub accepted : IsAccepted c.graph classes

-- there is no partition for the gate
pub record HasNoPartition (states : List (List ℕ)) (c : CodedGraph) (made : NewGate)
    (reason : NamedRejection) : Type 0 where
  pub why : NoPartition
  pub shows : ShowsNone c.graph (forced_at made.gate c) why
  pub named : IsNoneNamed states why reason

-- the partition for the gate isn't accepted; events may be of the new signal
pub record IsUnaccepted (states : List (List ℕ)) (c : CodedGraph) (made : NewGate)
    (reason : NamedRejection) : Type 0 where
  pub classes : List Class
  pub partition : IsPartitionFor c.graph (forced_at made.gate c) classes
  pub why : RejectedBy
  pub shows : ShowsRejected c.graph classes why
  pub named : IsRefusedSo states (c.graph.signals ++ new_signal made.name ∷ []) why reason

pub data IsUnmade (states : List (List ℕ)) (c : CodedGraph) (made : NewGate)
    (reason : NamedRejection) : Type 0 where
  NoneThere : (has_none : HasNoPartition states c made reason) → IsUnmade states c made reason
  NotTaken : (refused : IsUnaccepted states c made reason) → IsUnmade states c made reason

-- the accepted partition for the gate: else why there is none
abbrev pub partition_for : (states : List (List ℕ)) → CodedGraph → NewGate
    → Stage TextRefusal (List Class)
partition_for states c made (Ok classes) = IsAcceptedFor c made.gate classes
partition_for states c made (Err refusal) =
    (reason : NamedRejection) × IsUnmade states c made reason × (refusal ≡ Rejected reason)
