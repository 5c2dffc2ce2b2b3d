use Rattle.std.proofs.Common.{ℕ, ◌<◌, get_or}
use Rattle.si_base.specs.Sets.{is_in}
use Rattle.si_bounds.specs.Loops.Needs.{AsksWithin}
use Rattle.si_bounds.specs.declared.needs.Need.{Need}
use Rattle.si_bounds.proofs.needs.may_fit.Given as goal

abbrev pub invariant-loop-need : goal.invariant-loop-need
invariant-loop-need l = (k : ℕ) (d : Need) → k < l.need-index
    → AsksWithin (get_or l.needs k d) (is_in l.high) (is_in l.low) → ⊥
