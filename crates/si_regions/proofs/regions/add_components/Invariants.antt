use Rattle.std.proofs.Common.{◌≡◌, length}
use Rattle.si_regions.specs.Loops.Searching.{IsIdle}
use Rattle.si_regions.proofs.RegionComponents.{AreFoundTo}
use Rattle.si_regions.proofs.regions.add_components.Given as goal

abbrev pub invariant-loop-k : goal.invariant-loop-k
invariant-loop-k l = record {
  size : length l.done ≡ l.coded.graph.states;
  idle : IsIdle l.coded.graph.states l.search;
  found : AreFoundTo l.coded l.e l.k l.out.items l.done;
}
