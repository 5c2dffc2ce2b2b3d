use Rattle.std.proofs.Common.{◌≡◌, map, filter, take}
use Rattle.si_graph.specs.Loops.Renaming.{renamed, leaves_marked}
use Rattle.si_graph.proofs.renaming.renamed_arcs.Given as goal

abbrev pub invariant-loop-arc : goal.invariant-loop-arc
invariant-loop-arc l = l.out.items ≡ map (renamed l.places) (filter (leaves_marked l.set) (take l.arc-index l.arcs))
