use Rattle.std.proofs.Common.{ℕ, subst}
use Rattle.si_base.specs.Graph.{Step}
use Rattle.si_base.proofs.GraphSteps.{enables-step}
use Rattle.si_closures.proofs.SignalKinds.{apart_events}
use Rattle.si_candidates.specs.Loops.Earlier.{IsEarlierBy}
use Rattle.si_candidates.proofs.EarlierLemmas.{adds_none, earlier_is}
use Rattle.si_candidates.proofs.earlier.add_step.Goals as goal

pub returns-in_ok-push : goal.returns-in_ok-push
returns-in_ok-push c =
    let exit = c.args.exit.now in
    let before = c.args.before.now in
    rw c.in_ok-push.ensures.items (earlier_is c.args.graph.now exit before c.args.steps.now.items c.in-Some.to
    c.requires (apart_events before.event exit.event c.if-eq.ensures) c.in-Some.ensures.step)

pub returns-in_default : goal.returns-in_default
returns-in_default c =
    let g = c.args.graph.now in
    let exit = c.args.exit.now in
    let before = c.args.before.now in
    adds_none (IsEarlierBy g exit before) c.args.steps.now.items (λ step by. (
    let first = subst (λ (s : ℕ). Step g s exit.event step.to) by.from by.leads in
    c.in_default.ensures (enables-step g before.from exit.event step.to first)))
