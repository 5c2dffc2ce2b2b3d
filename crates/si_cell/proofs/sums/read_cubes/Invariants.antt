use Rattle.std.proofs.Common.{◌≡◌, ◌∷◌, length, codes}
use Rattle.si_words.specs.Loops.Reads.{words_now}
use Rattle.si_tokens.specs.LineParts.{each, each_after, held}
use Rattle.si_cell.specs.CellWords.{cube_part}
use Rattle.si_cell.specs.Loops.Reads.{parts_left}
use Rattle.si_cell.proofs.sums.read_cubes.Given as goal

abbrev pub invariant-loop-cube : goal.invariant-loop-cube
invariant-loop-cube l = held l.fault (each_after (λ before. cube_part l.declared) l.sum
    (words_now l.part.items ∷ parts_left (codes "+") l.left l.words))
    ≡ each (cube_part l.declared) (words_now l.fn.part.items ∷ parts_left (codes "+") l.fn.more l.fn.words)

abbrev pub decreases-loop-cube : goal.decreases-loop-cube
decreases-loop-cube l = length (parts_left (codes "+") l.left l.words)
