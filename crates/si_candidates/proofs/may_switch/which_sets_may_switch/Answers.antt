use Rattle.std.proofs.Common.{◌<◌, ◌+◌, length, drop, ap, sym, subst, arith}
use Rattle.std.proofs.lemmas.List.{take_at}
use Rattle.si_base.specs.declared.graph.Edge.{Edge}
use Rattle.si_base.specs.Sets.{IsIn}
use Rattle.si_candidates.specs.Blocking.{MayPass}
use Rattle.si_candidates.specs.Loops.ManySets.{EachTells, EachTellsOf}
use Rattle.si_candidates.proofs.EarlierLemmas.{added_to_none, item_at}
use Rattle.si_candidates.proofs.MaySwitchWords.{PassBelow, none_passed_yet, one_passed_more}
use Rattle.si_candidates.proofs.MaySwitchWords.{passed_by_staying, all_passed}
use Rattle.si_candidates.proofs.may_switch.which_sets_may_switch.Goals as goal

pub loop-arc-init : goal.loop-arc-init
loop-arc-init c = none_passed_yet c.args.graph.now c.args.lists.now c.in_ok-may.may.items
    (c.in_ok-may.ensures.items_if_clones_equal (λ _ same. same))

pub loop-arc-preserved-then-not-leads_out : goal.loop-arc-preserved-then-not-leads_out
loop-arc-preserved-then-not-leads_out c =
    let g = c.args.graph.now in
    let lists = c.args.lists.now in
    let n = c.loop-arc.arc-index in
    let may = c.loop-arc.may.items in
    let same = c.arcs-arc-items.ensures.arcs in
    let there : n < length g.edges = omega (arith, c.loop-arc-test.true, ap length same) in
    let is = item_at g c.arcs-arc-items.result.now n c.arc-item.result same there c.arc-item.is in
    let Stay : Edge → Type 0 = λ a. EachTellsOf may (λ set. IsIn set a.from → IsIn set a.to) lists may in
    let stay = rw c.as_slice.ensures.value at c.leads_out.ensures.0 c.if-not-leads_out.true in
    passed_by_staying g lists n may there c.loop-arc.invariant (subst Stay is stay)

pub loop-arc-preserved : goal.loop-arc-preserved
loop-arc-preserved c =
    let g = c.args.graph.now in
    let lists = c.args.lists.now in
    let n = c.loop-arc.arc-index in
    let may = c.loop-arc.may.items in
    let next = c.keep_passed.new.may in
    let same = c.arcs-arc-items.ensures.arcs in
    let there : n < length g.edges = omega (arith, c.loop-arc-test.true, ap length same) in
    let is = item_at g c.arcs-arc-items.result.now n c.arc-item.result same there c.arc-item.is in
    let Passes : Edge → Type 0 =
    λ a. EachTellsOf may (λ set. IsIn set a.from → MayPass g (IsIn set) a) lists next in
    let passes = rw c.as_mut_slice.ensures.value at c.keep_passed.ensures in
    let back = take_at next (drop (length next) may) c.loop-arc.may.len
    (omega (arith, c.keep_passed.ensures.count, c.as_mut_slice.ensures.len)) in
    subst (EachTells (λ set. PassBelow g set (n + 1)) lists) (sym back)
    (one_passed_more g lists n may next there c.loop-arc.invariant (subst Passes is passes))

pub keep_passed-requires-clause-earlier : goal.keep_passed-requires-clause-earlier
keep_passed-requires-clause-earlier c =
    rw c.as_slice-in-loop-arc.ensures.value (added_to_none c.args.graph.now c.arc-item.result c.clear.new.self.items
    c.add_steps.new.steps.items c.clear.ensures.items c.in_ok-add_steps.ensures)

pub returns : goal.returns
returns c = all_passed c.args.graph.now c.args.lists.now c.loop-arc.arc-index c.loop-arc.may.items
    c.arcs-arc-items.ensures.graph
    (omega (arith, c.loop-arc-test.false, ap length c.arcs-arc-items.ensures.arcs)) c.loop-arc.invariant
