use Rattle.std.proofs.Common.{◌≡◌}
use Rattle.si_resolve.specs.Loops.Progress.{IsSearching}
use Rattle.si_resolve.proofs.search.find_best.Given as goal

abbrev pub invariant-loop-j : goal.invariant-loop-j
invariant-loop-j l = record {
  searching : IsSearching l.graph l.list.blocks.items l.j 0 l.search;
  given : l.search.given ≡ l.conflicts;
}
