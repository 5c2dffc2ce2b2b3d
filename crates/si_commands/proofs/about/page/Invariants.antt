use Rattle.std.proofs.Common.{◌≡◌, ◌++◌, take}
use Rattle.std.specs.List.{flat_map}
use Rattle.si_commands.specs.About.{line_of, note_of}
use Rattle.si_commands.specs.Loops.Reads.{row_now}
use Rattle.si_commands.proofs.about.page.Given as goal

-- the lines of the rows so far are there
abbrev pub invariant-loop-row : goal.invariant-loop-row
invariant-loop-row l =
    l.text ≡ l.initial.text ++ flat_map (λ row. line_of l.word (row_now row)) (take l.row-index l.row-items)

-- the notes so far
abbrev pub invariant-loop-own : goal.invariant-loop-own
invariant-loop-own l =
    l.text ≡ l.initial.text ++ flat_map (λ note. note_of l.word (note.0.now, note.1.now)) (take l.own-index l.own-items)
