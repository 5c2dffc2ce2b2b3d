use Rattle.si_bounds.proofs.PointLemmas.{AreLeastBefore}
use Rattle.si_bounds.proofs.points.least_missed.Given as goal

abbrev pub invariant-loop-table : goal.invariant-loop-table
invariant-loop-table l = AreLeastBefore l.tables l.seen l.table-index l.least.items
