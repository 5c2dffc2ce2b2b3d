use Rattle.std.proofs.Common.{◌≡◌, ◌++◌}
use Rattle.si_told.specs.ToldLines.{dropped_line}
use Rattle.si_told.proofs.LineLemmas.{first_lines}
use Rattle.si_told.proofs.lines.add_dropped.Given as goal

abbrev pub invariant-loop-k : goal.invariant-loop-k
invariant-loop-k l = l.text ≡ l.initial.text ++ first_lines dropped_line l.dropped l.k
