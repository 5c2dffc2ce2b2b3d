use Rattle.std.proofs.Common.{◌≡◌, ◌++◌}
use Rattle.si_pictures.proofs.WritingParts.{items_from}
use Rattle.si_pictures.proofs.PictureLemmas.{name_at}
use Rattle.si_pictures.proofs.dot_text.add_names.Given as goal

abbrev pub invariant-loop-signal : goal.invariant-loop-signal
invariant-loop-signal l = l.text ++ items_from (name_at l.driven) l.signals l.signal-index
    ≡ l.initial.text ++ items_from (name_at l.driven) l.signals 0
