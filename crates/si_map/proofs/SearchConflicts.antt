-- A partition that leaves no conflict leaves an inserted graph without conflicts.
use Rattle.std.proofs.Common.{List}
use Rattle.si_base.specs.declared.graph.Signal.{Signal}
use Rattle.si_base.specs.Graph.{StateGraph}
use Rattle.si_base.specs.Codes.{CodedGraph, IsCoded}
use Rattle.si_base.specs.Proper.{HasNoConflict}
use Rattle.si_insert.specs.declared.partition.Class.{Class}
use Rattle.si_insert.specs.Partition.{IsLawful}
use Rattle.si_insert.specs.Insertion.{Copy, IsInsertedGraph, coded}
use Rattle.si_conflicts.specs.Left.{LeavesConflicts}
use Rattle.si_conflicts.proofs.OneConflictList.{none_is_none}
use Rattle.si_conflicts.proofs.ConflictsExist.{some_count}
use Rattle.si_conflicts.proofs.LeftCount.{one_left}

pub none_left : (c : CodedGraph) (classes : List Class) (new : Signal) (copies : List Copy) (h : StateGraph)
    → IsCoded c → IsLawful c.graph classes → LeavesConflicts c classes 0
    → IsInsertedGraph c.graph classes new copies h → HasNoConflict (coded c copies h)
none_left c classes new copies h is lawful free inserted =
    let counted = some_count (coded c copies h) in
    let here : LeavesConflicts c classes counted.0 =
    record { new = new; copies = copies; graph = h; insertion = inserted; counted = counted.1 } in
    let zero = one_left c is classes lawful counted.0 0 here free in
    (none_is_none (coded c copies h) counted.0 counted.1).1 zero
