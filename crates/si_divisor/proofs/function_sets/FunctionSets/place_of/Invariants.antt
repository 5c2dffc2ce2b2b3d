use Rattle.std.proofs.Common.{◌≢◌, ℕ, ◌<◌, length, get_or}
use Rattle.si_divisor.specs.declared.function.Function.{Function}
use Rattle.si_divisor.proofs.function_sets.FunctionSets.place_of.Given as goal

abbrev pub invariant-loop-k : goal.invariant-loop-k
invariant-loop-k l = (j : ℕ) (d : Function) → j < l.k → j < length l.self.functions.items
    → get_or l.self.functions.items j d ≢ l.function
