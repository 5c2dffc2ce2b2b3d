use Rattle.std.proofs.Common.{◌≡◌, [], drop, reverse}
use Rattle.si_equations_reader.specs.Loops.Values.{operations}
use Rattle.si_equations_reader.specs.Steps.{after_steps}
use Rattle.si_equations_reader.proofs.meaning.evaluate.Given as goal

abbrev pub invariant-loop-step : goal.invariant-loop-step
invariant-loop-step l =
    after_steps (operations l.meaning) (reverse l.results.items) (drop l.step-index l.steps)
    ≡ after_steps (operations l.meaning) [] l.steps
