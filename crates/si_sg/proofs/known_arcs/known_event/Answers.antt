use Rattle.std.proofs.Common.{sym, ◌∙◌}
use Rattle.si_sg.proofs.KnownArcLemmas.{known_word}
use Rattle.si_sg.proofs.known_arcs.known_event.Goals as goal

pub returns : goal.returns
returns c = rw c.in_ok-sign.ensures.cases.0 (
    known_word c.args.signals.now c.in_ok-sign.name.now c.in_ok-sign.sign.now c.in_ok-up.up c.in_ok-place.place
    (sym c.if-not-is_signal_name.ensures) c.in_ok-up.ensures (sym c.place_of.ensures ∙ c.in_ok-place.was))
