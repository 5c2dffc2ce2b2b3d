use Rattle.std.proofs.Common.{◌≡◌, take}
use Rattle.si_divisor.proofs.divisors.copy_of.Given as goal

abbrev pub invariant-loop-literal : goal.invariant-loop-literal
invariant-loop-literal l = l.copy.items ≡ take l.literal-index l.literals
