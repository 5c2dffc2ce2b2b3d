use Rattle.std.proofs.Common.{◌≡◌, ◌++◌, length}
use Rattle.si_pictures.proofs.WritingParts.{parts_from}
use Rattle.si_pictures.proofs.CodeLemmas.{digit_at}
use Rattle.si_pictures.proofs.code_word.add_code.Given as goal

abbrev pub invariant-loop-i : goal.invariant-loop-i
invariant-loop-i l = l.text ++ parts_from (digit_at l.graph l.s) (length l.graph.graph.signals) l.i
    ≡ l.initial.text ++ parts_from (digit_at l.graph l.s) (length l.graph.graph.signals) 0
