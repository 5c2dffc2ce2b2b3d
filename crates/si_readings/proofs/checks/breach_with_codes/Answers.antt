use Rattle.si_base.specs.Proper.{Fork, Loss}
use Rattle.si_readings.proofs.CheckBreaches.{fork_shown, loss_shown}
use Rattle.si_readings.proofs.CheckLemmas.{coded_consistent}
use Rattle.si_readings.proofs.checks.breach_with_codes.Goals as goal

pub returns-in_ok-state_name-in-Noncommutative-3 : goal.returns-in_ok-state_name-in-Noncommutative-3
returns-in_ok-state_name-in-Noncommutative-3 c =
    let told = c.in-Noncommutative in
    let fork : Fork = record { s = told.s; a = told.a; c = told.c; w = told.w; w2 = told.w2 } in
    let coded = c.graph.ensures.coded in
    let consistent = coded_consistent c.args.coded.now coded in
    fork_shown c.args.coded.now.graph c.args.states.now fork _ _ _ _ _
    coded.deterministic consistent (rw told.is at c.requires.shown)
    c.in_ok-state_name-in-Noncommutative.ensures
    (rw (← c.graph.ensures.same, ← c.signals-signals.ensures) c.in_ok-event_word-in-Noncommutative.ensures)
    (rw (← c.graph.ensures.same, ← c.signals-signals.ensures) c.in_ok-event_word-in-Noncommutative-2.ensures)
    c.in_ok-state_name-in-Noncommutative-2.ensures c.in_ok-state_name-in-Noncommutative-3.ensures

pub returns-in_ok-event_word-in-Nonpersistent-2 : goal.returns-in_ok-event_word-in-Nonpersistent-2
returns-in_ok-event_word-in-Nonpersistent-2 c =
    let told = c.in-Nonpersistent in
    let loss : Loss = record { s = told.s; lost = told.lost; by = told.by } in
    let coded = c.graph.ensures.coded in
    let consistent = coded_consistent c.args.coded.now coded in
    let shown = rw told.is at c.requires.shown in
    loss_shown c.args.coded.now.graph c.args.states.now loss _ _ _
    coded.deterministic consistent shown.0 shown.1
    c.in_ok-state_name-in-Nonpersistent.ensures
    (rw (← c.graph.ensures.same, ← c.signals-signals.ensures) c.in_ok-event_word-in-Nonpersistent.ensures)
    (rw (← c.graph.ensures.same, ← c.signals-signals.ensures) c.in_ok-event_word-in-Nonpersistent-2.ensures)
