use Rattle.std.proofs.Common.{◌≡◌, ℕ, ◌<◌, ◌≤◌, false, length}
use Rattle.si_base.specs.Bits.{bit}
use Rattle.si_base.specs.Codes.{code}
use Rattle.si_base.specs.Sets.{flag}
use Rattle.si_audit.specs.Loops.Columns.{words_for}
use Rattle.si_audit.proofs.values.column_of.Given as goal

abbrev pub invariant-loop-s : goal.invariant-loop-s
invariant-loop-s l = (length l.column ≡ words_for l.coded.graph.states)
    × ((t : ℕ) → t < l.s → flag l.column t ≡ bit (code l.coded t) l.z)
    × ((t : ℕ) → l.s ≤ t → flag l.column t ≡ false)
