use Rattle.std.proofs.Common.{map, take}
use Rattle.si_lint.specs.LintText.{dead_line}
use Rattle.si_told.specs.Loops.Lines.{AddsLines}
use Rattle.si_lint.proofs.lines.add_dead.Given as goal

abbrev pub invariant-loop-s : goal.invariant-loop-s
invariant-loop-s l = AddsLines l.graph
    (λ walk. map (dead_line l.graph.signals l.states walk) (take l.s-index l.first)) l.initial.text l.text
