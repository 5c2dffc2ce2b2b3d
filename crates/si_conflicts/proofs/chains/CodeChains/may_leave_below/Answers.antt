use Rattle.std.proofs.Common.{ap}
use Rattle.std.proofs.lemmas.Bool.{ltb-false}
use Rattle.si_conflicts.specs.Loops.Chains.{Chains}
use Rattle.si_conflicts.proofs.LeftCount.{none_below, told_below}
use Rattle.si_conflicts.proofs.TurnLemmas.{have_given, turns_given, states_within}
use Rattle.si_conflicts.proofs.chains.CodeChains.may_leave_below.Goals as goal

pub count_stable-requires-clause-members : goal.count_stable-requires-clause-members
count_stable-requires-clause-members g c = have_given c.args.graph.now c.coded.result.now c.args.self.now.next
    c.args.self.now.members _ _ _ c.requires.chains.members_are c.coded.ensures.same c.graph-given.ensures.coded
    c.self.invariant (ap (λ (x : Chains). x.members) c.self.view_is) c.as_slice.ensures.value

pub count_stable-requires-clause-within : goal.count_stable-requires-clause-within
count_stable-requires-clause-within g c =
    let turns = turns_given c.args.self.now.members _ _ _ c.self.invariant
    (ap (λ (x : Chains). x.members) c.self.view_is) c.as_slice.ensures.value in
    states_within _ _ c.args.self.now.members _ turns c.requires.count c.requires.chains.members_are.within

pub returns-clause-told : goal.returns-clause-told
returns-clause-told g c =
    let turns = turns_given c.args.self.now.members _ _ _ c.self.invariant
    (ap (λ (x : Chains). x.members) c.self.view_is) c.as_slice.ensures.value in
    told_below c.count_stable.result _ c.args.bar
    (λ below. c.count_stable.ensures.all below c.args.self.now.members turns)
    (λ enough. c.count_stable.ensures.more enough c.args.self.now.members turns)

pub returns-clause-none : goal.returns-clause-none
returns-clause-none g c = λ enough lawful.
    let turns = turns_given c.args.self.now.members _ _ _ c.self.invariant
    (ap (λ (x : Chains). x.members) c.self.view_is) c.as_slice.ensures.value in
    none_below c.args.graph.now (g.C.Classes.classes c.args.classes.now) c.args.self.now.next
    c.args.self.now.members c.coded.result.now c.args.bar c.coded.ensures.same c.graph-given.ensures.coded lawful
    c.requires.chains.rings c.requires.chains.members_are
    (c.count_stable.ensures.more (ltb-false c.count_stable.result c.args.bar enough) c.args.self.now.members turns)
