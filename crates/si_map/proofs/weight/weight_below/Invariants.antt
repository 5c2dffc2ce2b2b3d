use Rattle.std.proofs.Common.{◌≡◌, ◌+◌, ◌≤◌, drop}
use Rattle.si_checks.specs.Loops.Lent.{coded_of}
use Rattle.si_match.specs.Weight.{weight_from, weight_of}
use Rattle.si_map.proofs.weight.weight_below.Given as goal

abbrev pub invariant-loop-i : goal.invariant-loop-i
invariant-loop-i l = record {
  told : l.weight + weight_from (coded_of l.fn.graph) l.library l.i (drop l.i (coded_of l.fn.graph).graph.signals)
      ≡ weight_of (coded_of l.fn.graph) l.library;
  below : l.weight ≤ l.bar;
}
