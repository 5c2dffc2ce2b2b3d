use Rattle.std.proofs.Common.{◌≡◌, length}
use Rattle.si_candidates.specs.Loops.ManySets.{AreToldBelow}
use Rattle.si_candidates.proofs.may_switch.which_may_switch.Given as goal

abbrev pub invariant-loop-k : goal.invariant-loop-k
invariant-loop-k l = record {
  size : length l.may.items ≡ l.k;
  told : AreToldBelow l.graph.graph l.blocks l.may.items;
}
