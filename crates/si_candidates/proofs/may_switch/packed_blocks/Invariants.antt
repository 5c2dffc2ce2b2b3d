use Rattle.std.proofs.Common.{◌≡◌, length}
use Rattle.si_candidates.specs.Loops.ManySets.{ArePackedInOrder}
use Rattle.si_candidates.proofs.may_switch.packed_blocks.Given as goal

abbrev pub invariant-loop-b : goal.invariant-loop-b
invariant-loop-b l = record {
  count : length l.lists.items ≡ l.b;
  each : ArePackedInOrder l.states l.blocks l.lists.items;
}
