use Rattle.std.proofs.Common.{◌≡◌, ◌++◌}
use Rattle.si_lint.specs.LintText.{pair_line}
use Rattle.si_told.proofs.LineLemmas.{first_lines}
use Rattle.si_lint.proofs.lines.add_pairs.Given as goal

abbrev pub invariant-loop-pair : goal.invariant-loop-pair
invariant-loop-pair l =
    l.text ≡ l.initial.text ++ first_lines (λ x. pair_line l.word l.states (x.p, x.q)) l.first l.pair-index
