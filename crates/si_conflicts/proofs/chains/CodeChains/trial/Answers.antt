use Rattle.std.proofs.Common.{◌∙◌, arith, ap, length}
use Rattle.si_conflicts.specs.Loops.Chains.{Chains}
use Rattle.si_conflicts.proofs.RingLemmas.{few_given}
use Rattle.si_conflicts.proofs.TurnLemmas.{have_given, turns_given, states_within}
use Rattle.si_conflicts.proofs.LeftCount.{trial_found}
use Rattle.si_conflicts.proofs.chains.CodeChains.trial.Goals as goal

pub count_stable-told-requires-clause-members : goal.count_stable-told-requires-clause-members
count_stable-told-requires-clause-members c = have_given c.args.graph.now c.coded.result.now c.args.self.now.next
    c.args.self.now.members _ _ _ c.requires.chains.members_are c.coded.ensures.same c.graph-given.ensures.coded
    c.self.invariant (ap (λ (x : Chains). x.members) c.self.view_is) c.as_slice.ensures.value

pub count_stable-told-requires-clause-within : goal.count_stable-told-requires-clause-within
count_stable-told-requires-clause-within c =
    let turns = turns_given c.args.self.now.members _ _ _ c.self.invariant
    (ap (λ (x : Chains). x.members) c.self.view_is) c.as_slice.ensures.value in
    states_within _ _ c.args.self.now.members _ turns
    (ap length (c.classes-classes.ensures ∙ c.partition.ensures) ∙ c.requires.accepted.lawful.count)
    c.requires.chains.members_are.within

pub count_switching-requires-clause-few : goal.count_switching-requires-clause-few
count_switching-requires-clause-few c = few_given c.args.graph.now c.coded.result.now c.args.self.now.next
    c.args.self.now.members c.as_slice-members.result.now c.requires.chains.members_are c.coded.ensures.same
    c.graph-given.ensures.coded (c.as_slice-members.ensures.value ∙ ap (λ (x : Chains). x.members) c.self.view_is)

pub returns-clause-conflicts : goal.returns-clause-conflicts
returns-clause-conflicts c =
    let few = c.count_stable-told.ensures.few in
    let turns = turns_given c.args.self.now.members _ _ _ c.self.invariant
    (ap (λ (x : Chains). x.members) c.self.view_is) c.as_slice.ensures.value in
    let told = c.count_stable-told.ensures.all (omega (arith, few)) c.args.self.now.members turns in
    let members_are = c.as_slice-members.ensures.value ∙ ap (λ (x : Chains). x.members) c.self.view_is in
    trial_found c.args.graph.now c.args.accepted.now c.args.self.now.next c.args.self.now.members
    c.coded.result.now c.graph-given.result.now c.classes-classes.result.now c.as_slice-members.result.now
    c.count_stable-told.result c.in_ok-rest.rest c.coded.ensures.same c.graph-given.ensures.same
    (c.classes-classes.ensures ∙ c.partition.ensures) members_are c.graph-given.ensures.coded
    c.requires.accepted.lawful c.requires.chains.rings c.requires.chains.members_are told c.in_ok-rest.ensures.count
