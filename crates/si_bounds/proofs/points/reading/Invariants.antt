use Rattle.si_bounds.proofs.PointLemmas.{AreReadBefore}
use Rattle.si_bounds.proofs.points.reading.Given as goal

abbrev pub invariant-loop-table : goal.invariant-loop-table
invariant-loop-table l = AreReadBefore l.tables l.place l.table-index l.read.items
