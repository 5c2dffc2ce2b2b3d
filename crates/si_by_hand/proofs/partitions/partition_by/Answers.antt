use Rattle.std.proofs.Common.{List}
use Rattle.std.proofs.lemmas.Result.{IfOk-weaker, IfErr-weaker}
use Rattle.si_divisor.specs.PartitionFor.{IsPartitionFor, ShowsNone}
use Rattle.si_divisor.specs.Targets.{forced_in}
use Rattle.si_divisor.specs.declared.fault.NoPartition.{NoPartition}
use Rattle.si_insert.specs.declared.partition.Class.{Class}
use Rattle.si_netlist.specs.Loops.Parts.{gate_seen}
use Rattle.si_by_hand.specs.Forcing.{forced_at}
use Rattle.si_by_hand.proofs.PartitionByGate.{partition_by_gate, reason_by_gate}
use Rattle.si_by_hand.proofs.partitions.partition_by.Goals as goal

pub returns-clause-partition : goal.returns-clause-partition
returns-clause-partition c =
    let whole = c.args.graph.now in
    let gate = gate_seen c.args.gate.now in
    let up = c.in_ok-up.up in
    let down = c.in_ok-down.down in
    IfOk-weaker c.partition_where.result
    (λ (p : List Class). IsPartitionFor whole.graph (forced_in up down) p)
    (λ (p : List Class). IsPartitionFor whole.graph (forced_at gate whole) p)
    (λ p is. partition_by_gate whole c.coded-coded.result.now gate up down c.coded-coded.ensures.same
    c.graph.ensures.coded c.in_ok-up.ensures c.in_ok-down.ensures p is)
    c.partition_where.ensures.partition

pub returns-clause-fault : goal.returns-clause-fault
returns-clause-fault c =
    let whole = c.args.graph.now in
    let gate = gate_seen c.args.gate.now in
    let up = c.in_ok-up.up in
    let down = c.in_ok-down.down in
    IfErr-weaker c.partition_where.result
    (λ (why : NoPartition). ShowsNone whole.graph (forced_in up down) why)
    (λ (why : NoPartition). ShowsNone whole.graph (forced_at gate whole) why)
    (λ why shows. reason_by_gate whole c.coded-coded.result.now gate up down c.coded-coded.ensures.same
    c.graph.ensures.coded c.in_ok-up.ensures c.in_ok-down.ensures why shows)
    c.partition_where.ensures.fault
