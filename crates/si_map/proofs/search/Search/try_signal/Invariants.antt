use Rattle.si_checks.specs.Loops.Lent.{coded_of}
use Rattle.si_map.specs.Loops.Progress.{AreUpToDate, IsSearching}
use Rattle.si_map.proofs.search.Search.try_signal.Given as goal

abbrev pub invariant-loop-k : goal.invariant-loop-k
invariant-loop-k l = record {
  searching : IsSearching (coded_of l.fn.graph) l.library l.fn.z l.k l.self;
  known : AreUpToDate (coded_of l.fn.graph) l.library l.self.bar l.functions;
}
