-- Lists of codes, as far as some of the signals go.
use Rattle.std.specs.Prelude.{◌≡◌, ℕ, ◌<◌, ◌↔◌, Bool, List, Contains, bit_and, length}
use Rattle.si_base.specs.Codes.{CodedGraph, code, next_value}

-- the values of these signals in the codes of the states at which z has that next value
abbrev pub AreCodes : CodedGraph → ℕ → Bool → ℕ → List ℕ → Type 0
AreCodes c z value signals codes =
    (k : ℕ) → Contains codes k
    ↔ ((s : ℕ) × (s < length c.codes) × (next_value c s z ≡ value)
    × (bit_and (code c s) signals ≡ k))

-- the values of these signals in the codes
abbrev pub AreProjected : List ℕ → ℕ → List ℕ → Type 0
AreProjected codes signals part =
    (k : ℕ) → Contains part k ↔ ((m : ℕ) × Contains codes m × (bit_and m signals ≡ k))
