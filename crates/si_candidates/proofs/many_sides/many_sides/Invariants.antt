use Rattle.std.proofs.Common.{◌-◌, ◌≤◌, length}
use Rattle.si_candidates.specs.Loops.Sides.{AreSidesOf}
use Rattle.si_candidates.proofs.many_sides.many_sides.Given as goal

abbrev pub invariant-loop-alloc : goal.invariant-loop-alloc
invariant-loop-alloc l = record {
  within : length l.list.items ≤ length l.blocks;
  sides : AreSidesOf l.graph.graph l.tree l.blocks l.list.items;
}

abbrev pub decreases-loop-alloc : goal.decreases-loop-alloc
decreases-loop-alloc l = length l.blocks - length l.list.items
