use Rattle.std.proofs.Common.{◌≡◌, ℕ, ◌<◌, length}
use Rattle.si_base.specs.Bits.{bit}
use Rattle.si_base.specs.Codes.{code}
use Rattle.si_base.specs.Sets.{flag}
use Rattle.si_audit.specs.Loops.Columns.{column, words_for}
use Rattle.si_audit.proofs.values.columns_of.Given as goal

abbrev pub invariant-loop-z : goal.invariant-loop-z
invariant-loop-z l = (length l.columns.items ≡ l.z)
    × ((y : ℕ) → y < l.z → length (column l.columns.items y) ≡ words_for l.coded.graph.states)
    × ((y s : ℕ) → y < l.z → s < l.coded.graph.states → flag (column l.columns.items y) s ≡ bit (code l.coded s) y)
