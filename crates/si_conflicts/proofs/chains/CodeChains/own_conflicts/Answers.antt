use Rattle.std.proofs.Common.{◌∙◌, ap}
use Rattle.si_conflicts.specs.Loops.Chains.{Chains}
use Rattle.si_conflicts.proofs.RingLemmas.{few_given}
use Rattle.si_conflicts.proofs.chains.CodeChains.own_conflicts.Goals as goal

pub count_own-requires-clause-few : goal.count_own-requires-clause-few
count_own-requires-clause-few c = few_given c.args.graph.now c.coded.result.now c.args.self.now.next
    c.args.self.now.members c.as_slice.result.now c.requires.chains.members_are c.coded.ensures.same
    c.graph-given.ensures.coded (c.as_slice.ensures.value ∙ ap (λ (x : Chains). x.members) c.self.view_is)
