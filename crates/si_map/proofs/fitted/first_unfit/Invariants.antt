use Rattle.si_cell.specs.Library.{Library}
use Rattle.si_checks.specs.Loops.Lent.{coded_of}
use Rattle.si_circuit.proofs.CellLemmas.{FitBefore}
use Rattle.si_bounds.specs.Loops.Fitted.{AreFitted}
use Rattle.si_map.proofs.fitted.first_unfit.Given as goal

abbrev pub invariant-loop-i : goal.invariant-loop-i
invariant-loop-i l = (library : Library) → AreFitted (coded_of l.fn.graph) library l.fitted
    → FitBefore (coded_of l.fn.graph) library l.i
