use Rattle.si_map.specs.Loops.Functions.{AreFunctions}
use Rattle.si_map.proofs.functions.functions_of.Given as goal

abbrev pub invariant-loop-divisor : goal.invariant-loop-divisor
invariant-loop-divisor l = AreFunctions l.library l.divisors l.divisor-index l.functions.items
