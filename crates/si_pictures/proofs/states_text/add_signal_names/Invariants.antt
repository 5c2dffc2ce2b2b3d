use Rattle.std.proofs.Common.{◌≡◌, ◌++◌}
use Rattle.si_pictures.proofs.WritingParts.{items_from}
use Rattle.si_pictures.proofs.CodeLemmas.{spaced_name}
use Rattle.si_pictures.proofs.states_text.add_signal_names.Given as goal

abbrev pub invariant-loop-signal : goal.invariant-loop-signal
invariant-loop-signal l =
    l.text ++ items_from spaced_name l.signals l.signal-index ≡ l.initial.text ++ items_from spaced_name l.signals 0
