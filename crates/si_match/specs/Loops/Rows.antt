-- The rows of a truth table over few signals, one for each code of their values.
use Rattle.std.specs.Prelude.{◌≡◌, ℕ, ◌<◌, ◌↔◌, true, List, Contains}
use Rattle.si_base.specs.Bits.{bit}

-- the most signals of a truth table that is filled in
abbrev pub max_row_signals : ℕ
max_row_signals = 16

-- those of the first signals, so many, that are in the set
abbrev pub AreSignals : ℕ → ℕ → List ℕ → Type 0
AreSignals set count signals = (y : ℕ) → Contains signals y ↔ ((y < count) × (bit set y ≡ true))
