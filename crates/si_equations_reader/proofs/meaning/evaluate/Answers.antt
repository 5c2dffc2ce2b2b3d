use Rattle.std.proofs.Common.{reverse, ◌∙◌}
use Rattle.si_equations_reader.specs.Loops.Values.{operations}
use Rattle.si_equations_reader.proofs.StepLemmas.{all_values}
use Rattle.si_equations_reader.proofs.meaning.evaluate.Goals as goal

pub returns : goal.returns
returns c = c.take.ensures.value ∙ all_values (operations c.args.meaning.now) (reverse c.loop-step.results.items)
    c.args.steps.now c.loop-step.step-index c.loop-step.invariant c.loop-step-test.false
