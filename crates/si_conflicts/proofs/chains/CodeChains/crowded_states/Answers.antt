use Rattle.std.proofs.Common.{◌∙◌, ap}
use Rattle.si_conflicts.specs.Loops.Chains.{Chains}
use Rattle.si_conflicts.proofs.RingLemmas.{few_given}
use Rattle.si_conflicts.proofs.chains.CodeChains.crowded_states.Goals as goal

pub crowded_members-requires : goal.crowded_members-requires
crowded_members-requires c = few_given c.args.graph.now c.coded.result.now c.args.self.now.next c.args.self.now.members
    c.as_slice.result.now c.requires.members_are c.coded.ensures.same c.graph-given.ensures.coded
    (c.as_slice.ensures.value ∙ ap (λ (x : Chains). x.members) c.self.view_is)
