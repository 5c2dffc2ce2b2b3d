use Rattle.std.proofs.Common.{ap, sym, get_or, arith}
use Rattle.si_candidates.specs.declared.earlier.EarlierStep.{EarlierStep}
use Rattle.si_candidates.proofs.EarlierLemmas.{earlier_within}
use Rattle.si_candidates.proofs.MaySwitchWords.{none_out_yet, one_out_more, may_leave_by}
use Rattle.si_candidates.proofs.may_switch.those_to_leave.Goals as goal

pub loop-step-init : goal.loop-step-init
loop-step-init c = none_out_yet c.args.words.now c.args.earlier.now

pub bounds-words-step-inside : goal.bounds-words-step-inside
bounds-words-step-inside c =
    let step = c.step-item.result in
    let is = (c.requires.earlier step).0 (c.loop-step.step-index, c.loop-step-test.true, sym c.step-item.is) in
    let within = earlier_within c.args.graph.now c.args.arc.now step c.requires.graph is in
    omega (arith, within.0, ap (λ (s : EarlierStep). s.from) c.step.view_is, c.requires.size)

pub bounds-words-step-inside-in-loop-step : goal.bounds-words-step-inside-in-loop-step
bounds-words-step-inside-in-loop-step c =
    let step = c.step-item.result in
    let is = (c.requires.earlier step).0 (c.loop-step.step-index, c.loop-step-test.true, sym c.step-item.is) in
    let within = earlier_within c.args.graph.now c.args.arc.now step c.requires.graph is in
    omega (arith, within.1, ap (λ (s : EarlierStep). s.to) c.step.view_is, c.requires.size)

pub loop-step-preserved : goal.loop-step-preserved
loop-step-preserved c =
    let words = c.args.words.now in
    one_out_more words c.args.earlier.now c.loop-step.step-index c.loop-step.kept _ _ c.step-item.result
    c.loop-step-test.true c.step-item.is (c.type_inv.words c.step.inside.0.1.0.0).fits
    (ap (λ s. get_or words s 0) (ap (λ (s : EarlierStep). s.from) c.step.view_is))
    (ap (λ s. get_or words s 0) (ap (λ (s : EarlierStep). s.to) c.step.view_is)) c.loop-step.invariant

pub returns : goal.returns
returns c = may_leave_by c.args.graph.now c.args.words.now c.args.arc.now c.args.earlier.now c.loop-step.step-index
    c.loop-step.kept (omega (arith, c.loop-step-test.false)) (c.is_driven.ensures.0 c.if-not-is_driven.false)
    c.requires.there c.requires.earlier c.loop-step.invariant
