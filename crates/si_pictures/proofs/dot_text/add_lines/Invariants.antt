use Rattle.std.proofs.Common.{◌≡◌, ◌++◌}
use Rattle.si_pictures.proofs.WritingParts.{items_from}
use Rattle.si_pictures.proofs.PictureLemmas.{red_line_at}
use Rattle.si_pictures.proofs.dot_text.add_lines.Given as goal

abbrev pub invariant-loop-pair : goal.invariant-loop-pair
invariant-loop-pair l = l.text ++ items_from red_line_at l.pairs l.pair-index
    ≡ l.initial.text ++ items_from red_line_at l.pairs 0
