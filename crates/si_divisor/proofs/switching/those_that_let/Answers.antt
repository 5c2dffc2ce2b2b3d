use Rattle.std.proofs.Common.{ap, get_or, sym}
use Rattle.si_base.specs.declared.graph.Edge.{Edge}
use Rattle.si_closures.proofs.SignalKinds.{apart_events}
use Rattle.si_divisor.proofs.SwitchTurns.{let_by_bits}
use Rattle.si_divisor.proofs.switching.those_that_let.Goals as goal

pub returns-in-Some : goal.returns-in-Some
returns-in-Some c k few =
    let highs = c.args.highs.now in
    let words = c.args.words.now in
    let exit = c.args.exit.now in
    let before = c.args.before.now in
    let apart = apart_events before.event exit.event c.if-eq.ensures in
    let_by_bits c.args.graph.now highs words exit before c.in-Some.t _ _ (c.type_inv.highs c.before-2.inside.0.0.0).fits
    (ap (λ s. get_or highs s 0) (ap (λ (a : Edge). a.from) c.before-2.view_is))
    (ap (λ s. get_or words s 0) c.t.view_is) c.requires.deterministic c.in-Some.ensures.step
    (λ same. apart (sym same)) k few
