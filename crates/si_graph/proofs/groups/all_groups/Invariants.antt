use Rattle.si_graph.specs.Loops.Groups.{AreGroups}
use Rattle.si_graph.proofs.groups.all_groups.Given as goal

abbrev pub invariant-loop-s : goal.invariant-loop-s
invariant-loop-s l = AreGroups l.arcs l.s l.groups.items
