use Rattle.std.proofs.Common.{◌≡◌, ◌++◌, take}
use Rattle.std.specs.List.{flat_map}
use Rattle.si_commands.specs.About.{row_line}
use Rattle.si_commands.specs.Loops.Reads.{row_now}
use Rattle.si_commands.proofs.about.help.Given as goal

-- the lines of the rows so far are there
abbrev pub invariant-loop-row : goal.invariant-loop-row
invariant-loop-row l = l.text ≡ l.initial.text ++ flat_map (λ row. row_line (row_now row)) (take l.row-index l.row-items)
