use Rattle.std.proofs.Common.{◌≡◌}
use Rattle.si_candidates.proofs.blocks.sets_of.Given as goal

abbrev pub invariant-loop-block : goal.invariant-loop-block
invariant-loop-block l = l.sets.items ≡ l.yielded
