use Rattle.std.proofs.Common.{◌≡◌, ℕ, ◌-◌, ◌^◌, ◌<◌, ◌≤◌, false}
use Rattle.si_base.specs.Sets.{flag}
use Rattle.si_base.proofs.sets.first_set.Given as goal

abbrev pub invariant-loop-at : goal.invariant-loop-at
invariant-loop-at l = (l.from ≤ l.at) × (l.at < 2 ^ 39) × ((u : ℕ) → l.from ≤ u → u < l.at → flag l.words u ≡ false)

abbrev pub decreases-loop-at : goal.decreases-loop-at
decreases-loop-at l = 2 ^ 40 - l.at
