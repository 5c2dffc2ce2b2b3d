use Rattle.si_base.specs.Proper.{Split}
use Rattle.si_readings.proofs.CheckBreaches.{split_shown, values_shown}
use Rattle.si_readings.proofs.checks.breach_without_codes.Goals as goal

pub returns-in_ok-state_name-in-Nondeterministic-3 : goal.returns-in_ok-state_name-in-Nondeterministic-3
returns-in_ok-state_name-in-Nondeterministic-3 c =
    let told = c.in-Nondeterministic in
    let split : Split = record { s = told.s; e = told.e; t = told.t; u = told.u } in
    split_shown c.args.graph.now c.args.states.now split _ _ _ _ (rw told.is at c.requires.shown)
    c.in_ok-state_name-in-Nondeterministic.ensures (rw
    (← c.signals-signals.ensures) c.in_ok-event_word-in-Nondeterministic.ensures)
    c.in_ok-state_name-in-Nondeterministic-2.ensures c.in_ok-state_name-in-Nondeterministic-3.ensures

pub returns-in_ok-name_of_signal-in-Inconsistent : goal.returns-in_ok-name_of_signal-in-Inconsistent
returns-in_ok-name_of_signal-in-Inconsistent c =
    let told = c.in-Inconsistent in
    let shown = rw told.is at c.requires.shown in
    values_shown c.args.graph.now c.args.states.now told.sig _ shown.0 shown.1
    (rw (← c.signals-signals.ensures) c.in_ok-name_of_signal-in-Inconsistent.ensures)
