use Rattle.std.proofs.Common.{◌≡◌}
use Rattle.si_search.proofs.sided.all_blocks.Given as goal

abbrev pub invariant-loop-set : goal.invariant-loop-set
invariant-loop-set l = l.list.items ≡ l.yielded
