use Rattle.si_genlib.specs.Loops.Tables.{table_value}
use Rattle.si_genlib.proofs.DemandLemmas.{ArePartedBy}
use Rattle.si_genlib.proofs.demand.demand_of.Given as goal

abbrev pub invariant-loop-code : goal.invariant-loop-code
invariant-loop-code l = ArePartedBy (table_value l.count l.table) l.code l.required.items l.forbidden.items
