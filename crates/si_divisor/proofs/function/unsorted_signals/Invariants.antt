use Rattle.std.proofs.Common.{◌≡◌, map, take}
use Rattle.si_divisor.proofs.function.unsorted_signals.Given as goal

abbrev pub invariant-loop-literal : goal.invariant-loop-literal
invariant-loop-literal l = l.signals.items ≡ map (λ m. m.sig) (take l.literal-index l.literals)
