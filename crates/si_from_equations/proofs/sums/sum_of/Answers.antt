use Rattle.std.proofs.Common.{Some, ap, ◌∙◌}
use Rattle.si_base.specs.Netlist.{Sum}
use Rattle.si_equations_reader.proofs.StepLemmas.{all_values}
use Rattle.si_from_equations.specs.Sums.{TwoSums, sums}
use Rattle.si_from_equations.proofs.sums.sum_of.Goals as goal

pub returns-in-Some : goal.returns-in-Some
returns-in-Some c =
    let last = c.in_ok-last.ensures.last c.args.names.now
    ∙ all_values (sums c.args.names.now) _ c.args.steps.now _ c.loop-step.invariant c.loop-step-test.false in
    ap (λ (sum : Sum). Some sum) c.new.ensures ∙ c.in-Some.ensures ∙ ap (λ (two : TwoSums). two.plain) last

pub returns : goal.returns
returns c =
    let last = c.in_ok-last.ensures.last c.args.names.now
    ∙ all_values (sums c.args.names.now) _ c.args.steps.now _ c.loop-step.invariant c.loop-step-test.false in
    c.in-None.ensures ∙ ap (λ (two : TwoSums). two.plain) last
