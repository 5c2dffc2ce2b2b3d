use Rattle.std.proofs.Common.{◌<◌, All, take}
use Rattle.si_match.specs.Loops.Places.{AreSeen, Differs}
use Rattle.si_match.proofs.places.some_table_agrees.Given as goal

abbrev pub invariant-loop-table : goal.invariant-loop-table
invariant-loop-table l = record {
  seen : AreSeen l.coded l.z l.chosen l.seen;
  differ : All (Differs l.coded l.z l.chosen) (take l.table-index l.tables);
  within : All (λ s. s < l.coded.graph.states) l.witnesses.items;
}
