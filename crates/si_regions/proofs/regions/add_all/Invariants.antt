use Rattle.std.proofs.Common.{◌≡◌, ℕ, ◌<◌, ◌↔◌, ◌⊎◌, length, get_or}
use Rattle.si_base.specs.Sets.{IsIn}
use Rattle.si_regions.proofs.regions.add_all.Given as goal

abbrev pub invariant-loop-s : goal.invariant-loop-s
invariant-loop-s l = record {
  size : length l.set ≡ length l.initial.set;
  exactly : (t : ℕ) → IsIn l.set t
      ↔ (IsIn l.initial.set t ⊎ ((j : ℕ) × (j < l.s-index) × (j < length l.states) × (get_or l.states j t ≡ t)));
}
