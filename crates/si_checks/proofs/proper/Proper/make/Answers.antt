use Rattle.std.proofs.Common.{subst, Some}
use Rattle.si_base.specs.Graph.{StateGraph}
use Rattle.si_checks.specs.Loops.Searches.{IsFirstBreach}
use Rattle.si_checks.proofs.ProperLemmas.{deterministic, proper, shows}
use Rattle.si_checks.proofs.proper.Proper.make.Goals as goal

pub first_breach-requires-clause-deterministic : goal.first_breach-requires-clause-deterministic
first_breach-requires-clause-deterministic c =
    deterministic c.args.coded c.graph.result.now c.graph.ensures.coded c.graph.ensures.same

pub invariant_of-result : goal.invariant_of-result
invariant_of-result c = c.in-Ok-true.ensures.proper c.in-Ok-true.field-0-test

pub returns-in-Ok-true-clause-proper : goal.returns-in-Ok-true-clause-proper
returns-in-Ok-true-clause-proper c = c.in-Ok-true.ensures.proper c.in-Ok-true.field-0-test

pub invariant_of-result-in-None : goal.invariant_of-result-in-None
invariant_of-result-in-None c =
    proper c.args.coded c.graph.result.now c.graph.ensures.coded c.graph.ensures.same c.in-None.ensures

pub returns-in-None-clause-proper : goal.returns-in-None-clause-proper
returns-in-None-clause-proper c =
    proper c.args.coded c.graph.result.now c.graph.ensures.coded c.graph.ensures.same c.in-None.ensures

pub returns-in-Some-clause-fault : goal.returns-in-Some-clause-fault
returns-in-Some-clause-fault c =
    let Shows : StateGraph → Type 0 = λ g. IsFirstBreach g (Some c.in-Some.breach) in
    rw c.improper_by.ensures
    (shows c.args.coded.graph c.in-Some.breach (subst Shows c.graph.ensures.same c.in-Some.ensures))
