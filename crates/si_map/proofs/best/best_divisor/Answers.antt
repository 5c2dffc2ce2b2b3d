use Rattle.std.proofs.Common.{subst}
use Rattle.si_bounds.specs.Loops.Fitted.{AreFitted}
use Rattle.si_map.proofs.best.best_divisor.Goals as goal

pub best_by_functions-requires : goal.best_by_functions-requires
best_by_functions-requires c =
    subst (λ d. AreFitted d c.in_ok-functions.functions c.fitted_signals-fitted.result) c.distinct.ensures
    c.fitted_signals-fitted.ensures

pub returns : goal.returns
returns c = record { best = rw c.in_ok-functions.ensures at c.in_ok-best.ensures }
