use Rattle.std.proofs.Common.{◌≡◌, ◌+◌, ◌*◌, ◌≤◌, drop}
use Rattle.si_base.specs.Limits.{code_width}
use Rattle.si_cell.specs.Library.{Library}
use Rattle.si_checks.specs.Loops.Lent.{coded_of}
use Rattle.si_match.specs.Weight.{weight_from, weight_of}
use Rattle.si_bounds.specs.Loops.Fitted.{AreFitted}
use Rattle.si_map.proofs.weight.weight_without.Given as goal

abbrev pub invariant-loop-i : goal.invariant-loop-i
invariant-loop-i l = record {
  told : (library : Library) → AreFitted (coded_of l.fn.graph) library l.fitted
      → l.weight + weight_from (coded_of l.fn.graph) library l.i (drop l.i (coded_of l.fn.graph).graph.signals)
      ≡ weight_of (coded_of l.fn.graph) library;
  few : l.weight ≤ l.i * (1 + code_width);
}
