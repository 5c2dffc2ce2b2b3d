use Rattle.std.proofs.Common.{map, take}
use Rattle.si_lint.specs.LintText.{one_way_line}
use Rattle.si_told.specs.Loops.Lines.{AddsLines}
use Rattle.si_lint.proofs.lines.add_one_ways.Given as goal

abbrev pub invariant-loop-arc : goal.invariant-loop-arc
invariant-loop-arc l = AddsLines l.graph
    (λ walk. map (one_way_line l.graph.signals l.states walk) (take l.arc-index l.first)) l.initial.text l.text
