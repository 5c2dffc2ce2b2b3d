use Rattle.std.proofs.Common.{◌≡◌, All, map}
use Rattle.si_regions.specs.Regions.{IsRegion, component_of}
use Rattle.si_regions.specs.Loops.Searching.{AreRests, IsIdle}
use Rattle.si_regions.proofs.regions.regions.Given as goal

abbrev pub invariant-loop-component : goal.invariant-loop-component
invariant-loop-component l = record {
  idle : IsIdle l.graph.graph.states l.search;
  rests : AreRests l.graph l.rests;
  each : All (IsRegion l.graph) l.out.items;
  components_are : map component_of l.out.items ≡ l.yielded;
}
