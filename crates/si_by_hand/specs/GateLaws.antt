-- (law) What the gate of an inserted signal is to it.
use Rattle.std.specs.Prelude.{◌≡◌, ℕ, ◌<◌, List, length}
use Rattle.si_base.specs.Codes.{CodedGraph, IsCoded, code, next_value}
use Rattle.si_base.specs.Netlist.{Gate, value_of}
use Rattle.si_base.specs.Proper.{IsProper}
use Rattle.si_divisor.specs.Laws.{SwitchesWithin}
use Rattle.si_divisor.specs.PartitionFor.{IsPartitionFor}
use Rattle.si_insert.specs.Lineage.{Extends, History, given_history}
use Rattle.si_insert.specs.declared.partition.Class.{Class}
use Rattle.si_by_hand.specs.Forcing.{forced_at}

-- at each state the gate has the next value of signal z
abbrev pub HasNextValues : CodedGraph → (z : ℕ) → Gate → Type 0
HasNextValues c z gate = (s : ℕ) → s < c.graph.states
    → value_of gate z (code c s) ≡ next_value c s z

-- where a signal is inserted by the partition for a gate, the gate has its next values
abbrev pub GatesMakeTheirSignals : Type 0
GatesMakeTheirSignals = (c : CodedGraph) (gate : Gate) (name : List ℕ) (classes : List Class)
    (l : History) → IsCoded c → IsPartitionFor c.graph (forced_at gate c) classes
    → Extends (given_history c) (record { name = name; partition = classes }) l
    → HasNextValues l.current.coded (length c.graph.signals) gate

-- it is the least partition for which the gate is right: by each other one the signal switches
-- wherever it does by this one
abbrev pub PartitionsForGatesAreLeast : Type 0
PartitionsForGatesAreLeast = (c : CodedGraph) (gate : Gate) (name : List ℕ)
    (classes others : List Class) (l : History) → IsCoded c → IsProper c.graph
    → IsPartitionFor c.graph (forced_at gate c) classes
    → Extends (given_history c) (record { name = name; partition = others }) l
    → HasNextValues l.current.coded (length c.graph.signals) gate
    → SwitchesWithin c.graph classes others
