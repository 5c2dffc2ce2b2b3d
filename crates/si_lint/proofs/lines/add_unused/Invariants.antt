use Rattle.std.proofs.Common.{◌≡◌, ◌++◌}
use Rattle.si_lint.specs.LintText.{unused_line}
use Rattle.si_told.proofs.LineLemmas.{first_lines}
use Rattle.si_lint.proofs.lines.add_unused.Given as goal

abbrev pub invariant-loop-a : goal.invariant-loop-a
invariant-loop-a l = l.text ≡ l.initial.text ++ first_lines (unused_line l.signals) l.first l.a-index
