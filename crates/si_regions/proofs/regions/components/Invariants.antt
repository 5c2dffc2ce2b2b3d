use Rattle.std.proofs.Common.{◌*◌}
use Rattle.si_regions.specs.Loops.Searching.{IsIdle, ComponentsTo}
use Rattle.si_regions.proofs.regions.components.Given as goal

abbrev pub invariant-loop-z : goal.invariant-loop-z
invariant-loop-z l = record {
  idle : IsIdle l.graph.graph.states l.search;
  to : ComponentsTo l.graph (2 * l.z) 0 l.out.items;
}
