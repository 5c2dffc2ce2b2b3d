use Rattle.std.proofs.Common.{◌∙◌, ◌++◌, List, ℕ, ap}
use Rattle.si_pictures.proofs.PictureLemmas.{name_at, names_parts}
use Rattle.si_pictures.proofs.WritingParts.{items_done}
use Rattle.si_pictures.proofs.dot_text.add_names.Goals as goal

pub returns : goal.returns
returns c =
    items_done (name_at c.args.driven) c.args.signals.now c.loop-signal.signal-index c.loop-signal.text
    c.args.text.now c.loop-signal-test.false c.loop-signal.invariant
    ∙ ap (λ (t : List ℕ). c.args.text.now ++ t) (names_parts c.args.driven c.args.signals.now)
