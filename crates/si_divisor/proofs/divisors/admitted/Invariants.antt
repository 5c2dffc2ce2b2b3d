use Rattle.std.proofs.Common.{◌≡◌, filter, take}
use Rattle.si_cell.specs.Library.{admits}
use Rattle.si_divisor.proofs.divisors.admitted.Given as goal

abbrev pub invariant-loop-literal : goal.invariant-loop-literal
invariant-loop-literal l = l.kept.items ≡ filter (admits l.allowed) (take l.literal-index l.literals)
