use Rattle.std.proofs.Common.{sym}
use Rattle.si_closures.proofs.SignalKinds.{apart_events}
use Rattle.si_closures.proofs.WordSearchLemmas.{in_column}
use Rattle.si_divisor.proofs.SwitchTurns.{in_sets, spreads_all_as}
use Rattle.si_divisor.proofs.switching.reach_past.Goals as goal

pub returns : goal.returns
returns c =
    let words = c.args.work.now.words in
    let arc = c.args.arc.now in
    let beside = c.args.beside.now in
    let word = c.sets_of.result in
    let is = c.sets_of.ensures in
    let apart = apart_events beside.event arc.event c.if-eq.ensures in
    spreads_all_as _ _ _ _ _ _
    (λ k t p. (
    let both = (in_sets words c.args.sets beside.to word k is).0 p.0 in
    (both.0, λ same. apart (sym same), (in_column k words beside.to).0 both.1, p.1)))
    (λ k t r. (
      (in_sets words c.args.sets beside.to word k is).1 (r.0, (in_column k words beside.to).1 r.2),
      r.3,
    )) c.reach_exit.ensures
