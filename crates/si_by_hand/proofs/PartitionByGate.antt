-- From sets of forced states to the gate that forces them.
use Rattle.std.proofs.Common.{◌≡◌, Bool, true, false, List, length, refl, subst}
use Rattle.si_base.specs.Codes.{CodedGraph, IsCoded}
use Rattle.si_base.specs.Netlist.{Gate}
use Rattle.si_divisor.proofs.PartitionForAnswers.{partition_carried, reason_carried}
use Rattle.si_divisor.specs.PartitionFor.{IsPartitionFor, ShowsNone}
use Rattle.si_divisor.specs.Targets.{forced_in}
use Rattle.si_divisor.specs.declared.fault.NoPartition.{NoPartition}
use Rattle.si_insert.specs.declared.partition.Class.{Class}
use Rattle.si_by_hand.proofs.ForcedSetLemmas.{are_forced}
use Rattle.si_by_hand.specs.Forcing.{forced_at, own_value}
use Rattle.si_by_hand.specs.Loops.ForcedSets.{IsForcedSet}

module _ (c d : CodedGraph) (gate : Gate) (up down : List Bool) (same : d ≡ c) (is : IsCoded d)
    (rises : IsForcedSet (forced_at gate d true) d.graph.states up)
    (falls : IsForcedSet (forced_at gate d false) d.graph.states down) where
  coded : IsCoded c
  coded = subst IsCoded same is

  forced_up : IsForcedSet (forced_at gate c true) c.graph.states up
  forced_up = subst (λ (k : CodedGraph). IsForcedSet (forced_at gate k true) k.graph.states up) same rises

  forced_down : IsForcedSet (forced_at gate c false) c.graph.states down
  forced_down = subst (λ (k : CodedGraph). IsForcedSet (forced_at gate k false) k.graph.states down) same falls

  pub partition_by_gate : (classes : List Class) → IsPartitionFor c.graph (forced_in up down) classes
      → IsPartitionFor c.graph (forced_at gate c) classes
  partition_by_gate classes p =
      partition_carried (own_value gate (length c.graph.signals)) c c.graph up down refl coded
      (are_forced (forced_at gate c) c.graph.states up down forced_up forced_down) classes p

  pub reason_by_gate : (why : NoPartition) → ShowsNone c.graph (forced_in up down) why
      → ShowsNone c.graph (forced_at gate c) why
  reason_by_gate why shows =
      reason_carried (own_value gate (length c.graph.signals)) c c.graph up down refl coded
      (are_forced (forced_at gate c) c.graph.states up down forced_up forced_down) why shows
