use Rattle.std.proofs.Common.{◌≡◌, take}
use Rattle.std.specs.List.{fold}
use Rattle.si_sg.specs.Section.{with_arc}
use Rattle.si_sg.proofs.arc_set.insert_all.Given as goal

abbrev pub invariant-loop-arc : goal.invariant-loop-arc
invariant-loop-arc l = l.table.keys ≡ fold with_arc l.fn.table.keys (take l.arc-index l.arcs)
