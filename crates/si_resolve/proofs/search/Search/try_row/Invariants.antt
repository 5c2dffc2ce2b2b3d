use Rattle.std.proofs.Common.{◌≡◌}
use Rattle.si_resolve.specs.Loops.Progress.{IsSearching}
use Rattle.si_resolve.proofs.search.Search.try_row.Given as goal

abbrev pub invariant-loop-i : goal.invariant-loop-i
invariant-loop-i l = record {
  searching : IsSearching l.graph l.list.blocks.items l.j l.i l.self;
  given : l.self.given ≡ l.initial.self.given;
}
