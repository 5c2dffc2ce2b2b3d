use Rattle.std.proofs.Common.{◌∙◌, ap, arith}
use Rattle.std.proofs.lemmas.Option.{IfSome_then}
use Rattle.si_conflicts.specs.Loops.Chains.{Chains}
use Rattle.si_conflicts.proofs.LeftCount.{enough_told}
use Rattle.si_conflicts.proofs.TurnLemmas.{have_given, turns_given, states_within}
use Rattle.si_conflicts.proofs.chains.CodeChains.told_below.Goals as goal

pub count_stable-requires-clause-members : goal.count_stable-requires-clause-members
count_stable-requires-clause-members g c = have_given c.args.graph.now c.coded.result.now c.args.self.now.next
    c.args.self.now.members _ _ _ c.requires.chains.members_are c.coded.ensures.same c.graph-given.ensures.coded
    c.self.invariant (ap (λ (x : Chains). x.members) c.self.view_is) c.as_slice.ensures.value

pub count_stable-requires-clause-within : goal.count_stable-requires-clause-within
count_stable-requires-clause-within g c =
    let turns = turns_given c.args.self.now.members _ _ _ c.self.invariant
    (ap (λ (x : Chains). x.members) c.self.view_is) c.as_slice.ensures.value in
    states_within _ _ c.args.self.now.members _ turns c.requires.count c.requires.chains.members_are.within

pub returns-clause-told : goal.returns-clause-told
returns-clause-told g c =
    let turns = turns_given c.args.self.now.members _ _ _ c.self.invariant
    (ap (λ (x : Chains). x.members) c.self.view_is) c.as_slice.ensures.value in
    IfSome_then c.below.result c.below.ensures.some
    (λ n is. is.0 ∙ c.count_stable.ensures.all is.1 c.args.self.now.members turns)

pub returns-clause-fewer : goal.returns-clause-fewer
returns-clause-fewer g c =
    IfSome_then c.below.result c.below.ensures.some (λ n is. omega (arith, is.0, is.1))

pub returns-clause-few : goal.returns-clause-few
returns-clause-few g c =
    let few = c.count_stable.ensures.few in
    IfSome_then c.below.result c.below.ensures.some (λ n is. omega (arith, is.0, few))

pub returns-clause-none : goal.returns-clause-none
returns-clause-none g c =
    let turns = turns_given c.args.self.now.members _ _ _ c.self.invariant
    (ap (λ (x : Chains). x.members) c.self.view_is) c.as_slice.ensures.value in
    enough_told c.below.result c.count_stable.result _ c.args.bar c.below.ensures.none
    (λ enough. c.count_stable.ensures.more enough c.args.self.now.members turns)
