use Rattle.si_checks.specs.Loops.Lent.{coded_of}
use Rattle.si_map.specs.Loops.Progress.{AreUpToDate, IsSearching}
use Rattle.si_map.proofs.search.find_best.Given as goal

abbrev pub invariant-loop-i : goal.invariant-loop-i
invariant-loop-i l = record {
  searching : IsSearching (coded_of l.fn.graph) l.library l.i 0 l.search;
  known : AreUpToDate (coded_of l.fn.graph) l.library l.search.bar l.functions;
}
