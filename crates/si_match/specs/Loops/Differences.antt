-- Differences of codes: a set of signals tells two codes apart where it has a signal of theirs.
use Rattle.std.specs.Prelude.{◌≡◌, ℕ, ◌<◌, ◌==◌, ◌↔◌, ◌⊎◌, Bool, true, false, List, Contains}
use Rattle.std.specs.Prelude.{bit_and, bit_xor, length}
use Rattle.std.specs.List.{list_any}
use Rattle.si_base.specs.Codes.{CodedGraph, code, next_value}

-- the differences, as far as the signals go, of a code with the next value 1 of z and one with 0,
-- if they hold no trigger
abbrev pub AreDifferences : CodedGraph → (z signals triggers : ℕ) → List ℕ → Type 0
AreDifferences c z signals triggers differences =
    (d : ℕ) → Contains differences d
    ↔ ((s : ℕ) × (t : ℕ) × (s < length c.codes) × (t < length c.codes)
    × (next_value c s z ≡ true) × (next_value c t z ≡ false)
    × (bit_xor (bit_and (code c s) signals) (bit_and (code c t) signals) ≡ d)
    × (bit_and d triggers ≡ 0))

-- the differences before, and those of the code and each of the others, if they hold no trigger
abbrev pub AreJoined : List ℕ → ℕ → List ℕ → ℕ → List ℕ → Type 0
AreJoined before code others triggers differences =
    (d : ℕ) → Contains differences d
    ↔ (Contains before d
    ⊎ ((k : ℕ) × Contains others k × (bit_xor code k ≡ d) × (bit_and d triggers ≡ 0)))

-- one of the differences holds none of the signals
abbrev pub any_without : List ℕ → ℕ → Bool
any_without differences signals = list_any (λ d. bit_and d signals == 0) differences
