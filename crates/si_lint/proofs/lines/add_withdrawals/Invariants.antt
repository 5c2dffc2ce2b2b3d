use Rattle.std.proofs.Common.{◌≡◌, ◌++◌}
use Rattle.si_lint.specs.LintText.{loss_line}
use Rattle.si_told.proofs.LineLemmas.{first_lines}
use Rattle.si_lint.proofs.lines.add_withdrawals.Given as goal

abbrev pub invariant-loop-b : goal.invariant-loop-b
invariant-loop-b l = l.text ≡ l.initial.text
    ++ first_lines (loss_line l.word l.coded.graph.signals l.states) l.first l.b-index
