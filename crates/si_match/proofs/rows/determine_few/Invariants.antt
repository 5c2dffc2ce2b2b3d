use Rattle.si_match.proofs.RowLemmas.{AreFilled}
use Rattle.si_match.proofs.rows.determine_few.Given as goal

abbrev pub invariant-loop-s : goal.invariant-loop-s
invariant-loop-s l = AreFilled l.coded l.z l.signals.items l.s l.rows.items
