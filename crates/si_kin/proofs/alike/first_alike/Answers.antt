use Rattle.std.proofs.Common.{◌≡◌, ◌∙◌, ap, arith, ℕ, Option, subst}
use Rattle.std.specs.BTreeMap.{get}
use Rattle.std.proofs.lemmas.List.{get_or_default}
use Rattle.si_base.specs.Graph.{StateGraph}
use Rattle.si_kin.specs.declared.alike.Likeness.{Likeness}
use Rattle.si_kin.specs.Loops.Alike.{likeness_cmp, likeness_of}
use Rattle.si_kin.proofs.AlikeLemmas.{AreKnown, all_known, one_more_known}
use Rattle.si_kin.proofs.alike.first_alike.Goals as goal

pub loop-k-preserved : goal.loop-k-preserved
loop-k-preserved c =
    let d = c.args.coded.now in
    let k = c.loop-k.k in
    let key : Likeness = record { class = c.index-classes-k.result; code = c.code.result } in
    let states = c.states-states.ensures ∙ ap (λ (g : StateGraph). g.states) c.graph.ensures.same in
    let class = c.index-classes-k.is ∙ get_or_default c.args.classes.now k c.index-classes-k.result 0
    (omega (arith, c.requires, states, c.loop-k-test.true)) in
    let code = c.code.ensures in
    let key_is : key ≡ likeness_of d c.args.classes.now k = λ i. record { class = class i; code = code i } in
    let old : Likeness → Option ℕ = λ q. get likeness_cmp c.loop-k.known q in
    let new : Likeness → Option ℕ = λ q. get likeness_cmp c.first_with.new.known q in
    one_more_known d c.args.classes.now k c.in_ok-first.first key c.loop-k.firsts.items c.push.new.self.items old new
    c.loop-k.invariant key_is c.in_ok-first.ensures.found c.in_ok-first.ensures.there c.in_ok-first.ensures.others
    c.in_ok-push.ensures.items

pub returns : goal.returns
returns c =
    let d = c.args.coded.now in
    let all : c.loop-k.k ≡ d.graph.states =
    omega (
      arith,
      c.loop-k-test.false,
      c.loop-k.auto.k-end,
      c.states-states.ensures,
      ap (λ (g : StateGraph). g.states) c.graph.ensures.same,
    ) in
    all_known d c.args.classes.now c.loop-k.firsts.items (λ q. get likeness_cmp c.loop-k.known q)
    (subst (λ (n : ℕ). AreKnown d c.args.classes.now n c.loop-k.firsts.items (λ q. get likeness_cmp c.loop-k.known q))
    all c.loop-k.invariant)
