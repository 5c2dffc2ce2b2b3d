use Rattle.std.proofs.Common.{◌≡◌, ◌++◌, map, filter, take}
use Rattle.si_base.specs.Bits.{bit}
use Rattle.si_loops.specs.Arcs.{arc_to}
use Rattle.si_loops.proofs.arcs.add_arcs.Given as goal

abbrev pub invariant-loop-from : goal.invariant-loop-from
invariant-loop-from l =
    l.arcs.items ≡ l.initial.arcs.items ++ map (arc_to l.to) (filter (bit l.pins) (take l.from-index l.signals))
