use Rattle.std.proofs.Common.{◌∙◌, ap, length, refl, sym, subst}
use Rattle.si_base.specs.Codes.{CodedGraph, IsCoded, IsDeterministic}
use Rattle.si_base.specs.Graph.{StateGraph}
use Rattle.si_divisor.proofs.ManyFunctionLemmas.{are_function_sets}
use Rattle.si_divisor.proofs.function_sets.FunctionSets.make.Goals as goal

pub those_with_targets-targets-requires : goal.those_with_targets-targets-requires
those_with_targets-targets-requires c =
    let settled = c.in_ok-up.ensures.settled in
    ap length c.deref-3.ensures.value ∙ settled.zeros_size ∙ sym settled.ones_size
    ∙ sym (ap length c.deref-2.ensures.value)

pub switching-requires-clause-deterministic : goal.switching-requires-clause-deterministic
switching-requires-clause-deterministic c =
    subst (λ (h : StateGraph). IsDeterministic h) (sym c.graph-g.ensures.same) c.graph-g.ensures.coded.deterministic

pub switching-requires-2-clause-deterministic : goal.switching-requires-2-clause-deterministic
switching-requires-2-clause-deterministic c =
    subst (λ (h : StateGraph). IsDeterministic h) (sym c.graph-g.ensures.same) c.graph-g.ensures.coded.deterministic

pub switching-requires-clause-highs : goal.switching-requires-clause-highs
switching-requires-clause-highs c =
    let same = c.graph-g.ensures.same ∙ ap (λ (d : CodedGraph). d.graph) c.coded.ensures.same in
    ap length c.deref-4.ensures.value ∙ c.in_ok-up.ensures.settled.ones_size
    ∙ sym (ap (λ (h : StateGraph). h.states) same)

pub switching-requires-2-clause-highs : goal.switching-requires-2-clause-highs
switching-requires-2-clause-highs c =
    let same = c.graph-g.ensures.same ∙ ap (λ (d : CodedGraph). d.graph) c.coded.ensures.same in
    ap length c.deref-6.ensures.value ∙ c.in_ok-up.ensures.settled.zeros_size
    ∙ sym (ap (λ (h : StateGraph). h.states) same)

pub switching-requires-clause-within : goal.switching-requires-clause-within
switching-requires-clause-within c =
    let same = c.graph-g.ensures.same ∙ ap (λ (d : CodedGraph). d.graph) c.coded.ensures.same in
    ap length c.deref-5.ensures.value ∙ c.in_ok-up.ensures.settled.up_size
    ∙ sym (ap (λ (h : StateGraph). h.states) same)

pub switching-requires-2-clause-within : goal.switching-requires-2-clause-within
switching-requires-2-clause-within c =
    let same = c.graph-g.ensures.same ∙ ap (λ (d : CodedGraph). d.graph) c.coded.ensures.same in
    ap length c.deref-7.ensures.value ∙ c.in_ok-up.ensures.settled.down_size
    ∙ sym (ap (λ (h : StateGraph). h.states) same)

pub returns-clause-sets : goal.returns-clause-sets
returns-clause-sets c =
    let same = c.graph-g.ensures.same ∙ ap (λ (d : CodedGraph). d.graph) c.coded.ensures.same in
    let is = subst IsCoded c.coded.ensures.same c.graph-g.ensures.coded in
    let up = rw c.deref.ensures.value at c.in_ok-up.ensures.up in
    let down = rw c.deref.ensures.value at c.in_ok-up.ensures.down in
    let targets = rw (c.deref-2.ensures.value, c.deref-3.ensures.value) at c.those_with_targets-targets.ensures in
    let rise = rw (c.deref-4.ensures.value, c.deref-5.ensures.value, same) at c.in_ok-plus.ensures in
    let fall = rw (c.deref-6.ensures.value, c.deref-7.ensures.value, same) at c.in_ok-minus.ensures in
    let some_rise = rw c.deref-8.ensures.value at c.those_with_some.ensures in
    let some_fall = rw c.deref-9.ensures.value at c.those_with_some-2.ensures in
    are_function_sets c.args.graph.now (record {
      functions = c.args.functions;
      ones = c.in_ok-up.field-0.ones;
      plus = c.in_ok-plus.field-0.words;
      minus = c.in_ok-minus.field-0.words;
      partitions = _;
    }) c.in_ok-up.field-0 is up down c.in_ok-up.ensures.settled c.those_with_targets-targets.result
    c.in_ok-plus.field-0.kept c.in_ok-minus.field-0.kept c.those_with_some.result c.those_with_some-2.result refl
    targets rise fall some_rise some_fall c.requires.few
