use Rattle.std.proofs.Common.{◌≡◌, ◌+◌, length}
use Rattle.si_resolve.specs.Loops.Aspects.{unparted_count}
use Rattle.si_resolve.proofs.aspects.are_below.Given as goal

abbrev pub invariant-loop-plus : goal.invariant-loop-plus
invariant-loop-plus l = record {
  count : length l.minus ≡ length l.plus;
  rest : unparted_count l.fn.plus l.fn.minus + l.room ≡ unparted_count l.plus l.minus + l.bar;
}

abbrev pub decreases-loop-plus : goal.decreases-loop-plus
decreases-loop-plus l = length l.plus
