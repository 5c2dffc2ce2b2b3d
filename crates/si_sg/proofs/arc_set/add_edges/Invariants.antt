use Rattle.std.proofs.Common.{◌≡◌, ◌++◌, map, take}
use Rattle.si_sg.specs.GivenGraph.{edge_of}
use Rattle.si_sg.proofs.arc_set.add_edges.Given as goal

abbrev pub invariant-loop-arc : goal.invariant-loop-arc
invariant-loop-arc l = l.edges.items ≡ l.fn.edges.items ++ map edge_of (take l.arc-index l.arcs)
