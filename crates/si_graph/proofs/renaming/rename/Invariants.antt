use Rattle.si_graph.specs.Loops.Renaming.{Renames}
use Rattle.si_graph.proofs.renaming.rename.Given as goal

abbrev pub invariant-loop-s : goal.invariant-loop-s
invariant-loop-s l = Renames l.set l.s l.kept.items l.places.items
