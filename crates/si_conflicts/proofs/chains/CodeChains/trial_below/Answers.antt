use Rattle.std.proofs.Common.{◌+◌, ◌∙◌, refl, ap}
use Rattle.si_conflicts.specs.Loops.Chains.{Chains}
use Rattle.si_conflicts.proofs.RingLemmas.{few_given}
use Rattle.si_conflicts.proofs.TurnLemmas.{have_given, turns_given, states_within}
use Rattle.si_conflicts.proofs.LeftCount.{trial_found, none_below, below_is, below_none}
use Rattle.si_conflicts.proofs.chains.CodeChains.trial_below.Goals as goal

pub count_stable-told-requires-clause-members : goal.count_stable-told-requires-clause-members
count_stable-told-requires-clause-members c = have_given c.args.graph.now c.coded.result.now c.args.self.now.next
    c.args.self.now.members _ _ _ c.requires.chains.members_are c.coded.ensures.same c.graph-given.ensures.coded
    c.self.invariant (ap (λ (x : Chains). x.members) c.self.view_is) c.as_slice.ensures.value

pub count_stable-told-requires-clause-within : goal.count_stable-told-requires-clause-within
count_stable-told-requires-clause-within c =
    let turns = turns_given c.args.self.now.members _ _ _ c.self.invariant
    (ap (λ (x : Chains). x.members) c.self.view_is) c.as_slice.ensures.value in
    states_within _ _ c.args.self.now.members _ turns c.requires.lawful.count c.requires.chains.members_are.within

pub count_switching-requires-clause-few : goal.count_switching-requires-clause-few
count_switching-requires-clause-few c = few_given c.args.graph.now c.coded.result.now c.args.self.now.next
    c.args.self.now.members c.as_slice-members.result.now c.requires.chains.members_are c.coded.ensures.same
    c.graph-given.ensures.coded (c.as_slice-members.ensures.value ∙ ap (λ (x : Chains). x.members) c.self.view_is)

pub returns-then-told-bar-clause-none : goal.returns-then-told-bar-clause-none
returns-then-told-bar-clause-none c =
    let turns = turns_given c.args.self.now.members _ _ _ c.self.invariant
    (ap (λ (x : Chains). x.members) c.self.view_is) c.as_slice.ensures.value in
    none_below c.args.graph.now c.args.classes.now c.args.self.now.next c.args.self.now.members c.coded.result.now
    c.args.bar c.coded.ensures.same c.graph-given.ensures.coded c.requires.lawful c.requires.chains.rings
    c.requires.chains.members_are
    (c.count_stable-told.ensures.more c.if-told-bar.true c.args.self.now.members turns)

pub returns-clause-fewer : goal.returns-clause-fewer
returns-clause-fewer c =
    let members_are = c.as_slice-members.ensures.value ∙ ap (λ (x : Chains). x.members) c.self.view_is in
    let turns = turns_given c.args.self.now.members _ _ _ c.self.invariant
    (ap (λ (x : Chains). x.members) c.self.view_is) c.as_slice.ensures.value in
    let told = c.count_stable-told.ensures.all c.if-told-bar.false c.args.self.now.members turns in
    let left = trial_found c.args.graph.now c.args.classes.now c.args.self.now.next c.args.self.now.members
    c.coded.result.now c.graph-given.result.now c.args.classes.now c.as_slice-members.result.now
    c.count_stable-told.result c.in_ok-rest.rest c.coded.ensures.same c.graph-given.ensures.same refl members_are
    c.graph-given.ensures.coded c.requires.lawful c.requires.chains.rings c.requires.chains.members_are told
    c.in_ok-rest.ensures.count in
    below_is c.args.graph.now c.args.classes.now (c.count_stable-told.result + c.in_ok-rest.rest) c.args.bar
    c.below.result left c.below.ensures.some

pub returns-clause-none : goal.returns-clause-none
returns-clause-none c =
    let members_are = c.as_slice-members.ensures.value ∙ ap (λ (x : Chains). x.members) c.self.view_is in
    let turns = turns_given c.args.self.now.members _ _ _ c.self.invariant
    (ap (λ (x : Chains). x.members) c.self.view_is) c.as_slice.ensures.value in
    let told = c.count_stable-told.ensures.all c.if-told-bar.false c.args.self.now.members turns in
    let left = trial_found c.args.graph.now c.args.classes.now c.args.self.now.next c.args.self.now.members
    c.coded.result.now c.graph-given.result.now c.args.classes.now c.as_slice-members.result.now
    c.count_stable-told.result c.in_ok-rest.rest c.coded.ensures.same c.graph-given.ensures.same refl members_are
    c.graph-given.ensures.coded c.requires.lawful c.requires.chains.rings c.requires.chains.members_are told
    c.in_ok-rest.ensures.count in
    below_none c.args.graph.now c.coded.result.now c.coded.ensures.same c.graph-given.ensures.coded c.args.classes.now
    c.requires.lawful (c.count_stable-told.result + c.in_ok-rest.rest) c.args.bar c.below.result left
    c.below.ensures.none
