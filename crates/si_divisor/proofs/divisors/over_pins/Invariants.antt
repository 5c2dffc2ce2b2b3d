use Rattle.std.proofs.Common.{◌≡◌, ◌≤◌, take, length}
use Rattle.std.specs.Prelude.{flat_map}
use Rattle.std.specs.List.{enumerate_from}
use Rattle.si_divisor.specs.Divisors.{max_divisors}
use Rattle.si_divisor.specs.Loops.Completions.{of_cell}
use Rattle.si_divisor.proofs.divisors.over_pins.Given as goal

abbrev pub invariant-loop-k : goal.invariant-loop-k
invariant-loop-k l = record {
  found : l.found.items ≡ take max_divisors (flat_map (of_cell l.pins) (take l.k (enumerate_from 0 l.library.cells)));
  few : length l.found.items ≤ max_divisors;
}
