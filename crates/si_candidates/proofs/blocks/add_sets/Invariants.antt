use Rattle.std.proofs.Common.{◌≡◌}
use Rattle.si_candidates.specs.Loops.Adding.{with_blocks}
use Rattle.si_candidates.proofs.blocks.add_sets.Given as goal

abbrev pub invariant-loop-set : goal.invariant-loop-set
invariant-loop-set l = l.found.items ≡ with_blocks l.fn.found.items l.yielded
