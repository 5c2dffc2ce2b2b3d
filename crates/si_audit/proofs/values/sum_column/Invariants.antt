use Rattle.std.proofs.Common.{◌≡◌, ℕ, ◌/◌, ◌<◌, ◌||◌, length, drop}
use Rattle.si_base.specs.Netlist.{sum_value}
use Rattle.si_base.specs.Sets.{flag}
use Rattle.si_audit.specs.Loops.Columns.{HasCode, words_for}
use Rattle.si_audit.proofs.values.sum_column.Given as goal

abbrev pub invariant-loop-j : goal.invariant-loop-j
invariant-loop-j l = (length l.values ≡ words_for l.states) × (length l.product ≡ words_for l.states)
    × ((s k : ℕ) → s / 64 < words_for l.states → HasCode l.columns s k
    → (flag l.values s || sum_value k (drop l.j l.cubes)) ≡ sum_value k l.sum)
