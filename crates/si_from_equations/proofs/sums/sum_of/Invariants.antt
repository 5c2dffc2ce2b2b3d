use Rattle.std.proofs.Common.{◌≡◌, [], drop, reverse}
use Rattle.si_equations_reader.specs.Steps.{after_steps}
use Rattle.si_from_equations.specs.Sums.{sums}
use Rattle.si_from_equations.proofs.sums.sum_of.Given as goal

abbrev pub invariant-loop-step : goal.invariant-loop-step
invariant-loop-step l =
    after_steps (sums l.names) (reverse l.results.items) (drop l.step-index l.steps)
    ≡ after_steps (sums l.names) [] l.steps
