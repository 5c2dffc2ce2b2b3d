use Rattle.std.proofs.Common.{◌≡◌, List, [], ◌∷◌, ◌++◌, length}
use Rattle.si_base.specs.declared.ids.Literal.{Literal}
use Rattle.si_cell.specs.Library.{Cell}
use Rattle.si_match.specs.Loops.Columns.{AreColumns}
use Rattle.si_match.proofs.columns.with_literal.Given as goal

abbrev pub invariant-loop-rest : goal.invariant-loop-rest
invariant-loop-rest l = record {
  count : length l.chosen.items ≡ l.rest;
  columns : (cell : Cell) (literals : List Literal) → AreColumns cell literals l.columns
      → AreColumns cell (literals ++ l.fn.literal ∷ []) l.chosen.items;
}
