use Rattle.std.proofs.Common.{map, take}
use Rattle.si_breaches.specs.BreachText.{fork_line}
use Rattle.si_told.specs.Loops.Lines.{AddsLines}
use Rattle.si_breaches.proofs.breach_lines.add_forks.Given as goal

abbrev pub invariant-loop-b : goal.invariant-loop-b
invariant-loop-b l = AddsLines l.graph
    (λ walk. map (fork_line l.graph.signals l.states walk) (take l.b-index l.first)) l.initial.text l.text
