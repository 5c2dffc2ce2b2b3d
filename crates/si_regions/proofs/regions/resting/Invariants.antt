use Rattle.std.proofs.Common.{◌≤◌}
use Rattle.si_regions.specs.Regions.{IsQuiet}
use Rattle.si_regions.proofs.RegionLemmas.{MadeTo, IsStateOf}
use Rattle.si_regions.proofs.regions.resting.Given as goal

abbrev pub invariant-loop-k : goal.invariant-loop-k
invariant-loop-k l = record {
  made : MadeTo (IsStateOf (IsQuiet l.coded l.e)) l.coded.graph.states l.k l.set;
  most : l.k ≤ l.coded.graph.states;
}
