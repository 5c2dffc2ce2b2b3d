use Rattle.std.proofs.Common.{◌≡◌, ◌-◌, List, ◌++◌}
use Rattle.si_base.specs.declared.ids.Literal.{Literal}
use Rattle.si_cell.specs.Library.{Cell}
use Rattle.si_match.specs.Loops.Columns.{AreColumns}
use Rattle.si_match.proofs.FunctionLemmas.{tables_before}
use Rattle.si_match.proofs.functions.+add_tables.Given as goal

abbrev pub decreases-add_tables : goal.decreases-add_tables
decreases-add_tables l = l.more

abbrev pub invariant-loop-place : goal.invariant-loop-place
invariant-loop-place l = (cell : Cell) (literals : List Literal) → AreColumns cell literals l.columns
    → l.tables.items ≡ l.fn.tables.items ++ tables_before l.allowed cell literals (l.more - 1) l.place
