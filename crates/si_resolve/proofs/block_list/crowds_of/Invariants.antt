use Rattle.std.proofs.Common.{◌≡◌, ◌<◌, ℕ, IfSome, length}
use Rattle.si_candidates.specs.Blocks.{block_at}
use Rattle.si_conflicts.specs.Loops.Crowds.{HasOfCrowd}
use Rattle.si_resolve.specs.Loops.Sharing.{crowd_at}
use Rattle.si_resolve.proofs.block_list.crowds_of.Given as goal

abbrev pub invariant-loop-k : goal.invariant-loop-k
invariant-loop-k l = record {
  count : length l.crowds.items ≡ l.k;
  each : (k : ℕ) → k < l.k → IfSome (crowd_at l.crowds.items k) (HasOfCrowd l.chains.members (block_at l.blocks k));
}
