use Rattle.std.proofs.Common.{◌≡◌, ◌++◌}
use Rattle.si_pictures.specs.Writing.{escaped_byte}
use Rattle.si_pictures.proofs.WritingParts.{items_from}
use Rattle.si_pictures.proofs.dot_writing.add_escaped.Given as goal

abbrev pub invariant-loop-b : goal.invariant-loop-b
invariant-loop-b l = l.text ++ items_from escaped_byte l.label l.b-index ≡ l.initial.text
    ++ items_from escaped_byte l.label 0
