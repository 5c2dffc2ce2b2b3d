use Rattle.std.proofs.Common.{◌≡◌, ◌≤◌, ◌-◌, ◌++◌, take, length}
use Rattle.std.specs.Prelude.{flat_map}
use Rattle.si_divisor.specs.Divisors.{max_divisors}
use Rattle.si_divisor.proofs.CompletionLemmas.{with_next}
use Rattle.si_divisor.proofs.divisors.+add_completions.Given as goal

abbrev pub decreases-add_completions : goal.decreases-add_completions
decreases-add_completions l = l.more

abbrev pub invariant-loop-pin : goal.invariant-loop-pin
invariant-loop-pin l = record {
  found : l.found.items ≡ take max_divisors (l.fn.found.items
      ++ flat_map (with_next l.pins l.cell l.fn.literals.items (l.more - 1)) (take l.pin-index l.pins));
  few : length l.found.items ≤ max_divisors;
  kept : l.literals.items ≡ l.fn.literals.items;
}
