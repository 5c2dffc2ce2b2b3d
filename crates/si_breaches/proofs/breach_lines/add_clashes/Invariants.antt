use Rattle.si_told.specs.Loops.Lines.{AddsLines}
use Rattle.si_breaches.proofs.BreachLines.{lines_to}
use Rattle.si_breaches.proofs.breach_lines.add_clashes.Given as goal

abbrev pub invariant-loop-clashing : goal.invariant-loop-clashing
invariant-loop-clashing l =
    AddsLines l.graph (lines_to l.graph l.states l.found l.clashing-index) l.initial.text l.text
