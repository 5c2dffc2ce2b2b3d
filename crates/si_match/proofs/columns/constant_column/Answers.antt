use Rattle.si_base.proofs.BitFacts.{bit-zero}
use Rattle.si_match.proofs.ColumnLemmas.{column_of_ones}
use Rattle.si_match.proofs.columns.constant_column.Goals as goal

pub returns-then-value : goal.returns-then-value
returns-then-value c m below = rw c.if-value.true (column_of_ones m below)

pub returns-else-value : goal.returns-else-value
returns-else-value c m below = rw c.if-value.false (bit-zero m)
