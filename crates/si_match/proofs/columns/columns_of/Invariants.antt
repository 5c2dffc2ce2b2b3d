use Rattle.std.proofs.Common.{◌≡◌, [], length}
use Rattle.si_match.specs.Loops.Columns.{AreColumns}
use Rattle.si_match.proofs.columns.columns_of.Given as goal

abbrev pub invariant-loop-code : goal.invariant-loop-code
invariant-loop-code l = record {
  count : length l.columns.items ≡ l.code;
  columns : AreColumns l.cell [] l.columns.items;
}
