use Rattle.std.proofs.Common.{ap, refl, subst, ◌∙◌}
use Rattle.si_base.specs.Codes.{CodedGraph}
use Rattle.si_base.specs.Graph.{StateGraph}
use Rattle.si_readings.specs.Checks.{ShowsFirstBreach}
use Rattle.si_readings.proofs.checks.proper_of.Goals as goal

pub returns-in-Err-clause-err : goal.returns-in-Err-clause-err
returns-in-Err-clause-err c =
    let breach = c.in_ok-breach-in-Err.breach in
    let Shows : StateGraph → Type 0 = λ g. ShowsFirstBreach g c.args.states.now breach in
    (breach, subst Shows c.in-Err.ensures.back c.in_ok-breach-in-Err.ensures, refl)

pub returns-in_ok-breach-in-Err-make-clause-err : goal.returns-in_ok-breach-in-Err-make-clause-err
returns-in_ok-breach-in-Err-make-clause-err c =
    let breach = c.in_ok-breach-in-Err-make.breach in
    let Shows : StateGraph → Type 0 = λ g. ShowsFirstBreach g c.args.states.now breach in
    let graph = ap (λ (k : CodedGraph). k.graph) c.in-Err-make.ensures.back ∙ c.in-Ok.ensures.same in
    (breach, subst Shows graph c.in_ok-breach-in-Err-make.ensures, refl)
