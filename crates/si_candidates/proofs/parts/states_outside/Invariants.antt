use Rattle.std.proofs.Common.{◌≤◌}
use Rattle.si_regions.proofs.RegionLemmas.{MadeTo, IsStateOf}
use Rattle.si_candidates.specs.Parts.{IsOther}
use Rattle.si_candidates.proofs.parts.states_outside.Given as goal

abbrev pub invariant-loop-k : goal.invariant-loop-k
invariant-loop-k l = record {
  made : MadeTo (IsStateOf (IsOther l.graph l.plus l.minus)) l.graph.states l.k l.set;
  most : l.k ≤ l.graph.states;
}
