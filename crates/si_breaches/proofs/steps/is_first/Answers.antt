use Rattle.si_breaches.proofs.StepLemmas.{least_told}
use Rattle.si_breaches.proofs.steps.is_first.Goals as goal

pub returns-in-Some : goal.returns-in-Some
returns-in-Some c = least_told c.args.graph.now c.args.s c.args.x.now.event c.in-Some.t c.args.x.now.to c.eq.result
    c.in-Some.ensures c.eq.ensures
