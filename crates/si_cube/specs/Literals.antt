-- (field) The literals of a cube that is kept as two codes.
use Rattle.std.specs.Prelude.{◌≡◌, ℕ, ◌+◌, true, List, [], ◌∷◌, zero, suc, if◌then◌else◌, AllPairs}
use Rattle.std.specs.Prelude.{◌<◌}
use Rattle.si_base.specs.declared.ids.Literal.{Literal}
use Rattle.si_base.specs.Limits.{code_width}
use Rattle.si_base.specs.Bits.{bit}

-- a literal for each of the next signals, from the i-th on, that the cube cares for: plain where
-- its value is 1
abbrev pub literals_from : ℕ → ℕ → ℕ → ℕ → List Literal
literals_from zero i care value = []
literals_from (suc count) i care value =
    if bit care i then record { sig = i; plain = bit value i } ∷ literals_from count (i + 1) care
    value
    else literals_from count (i + 1) care value

unfoldable pub literals_of : ℕ → ℕ → List Literal
literals_of care value = literals_from code_width 0 care value

-- each signal of value 1 is one that the cube cares for
abbrev pub IsWithin : ℕ → ℕ → Type 0
IsWithin care value = (i : ℕ) → bit value i ≡ true → bit care i ≡ true

-- a literal for each of the next signals, from the i-th on, each true at the code
abbrev pub full_literals : ℕ → ℕ → ℕ → List Literal
full_literals zero i code = []
full_literals (suc count) i code =
    record { sig = i; plain = bit code i } ∷ full_literals count (i + 1) code

-- in strictly rising signal order
abbrev pub InSignalOrder : List Literal → Type 0
InSignalOrder literals = AllPairs (λ k l. k.sig < l.sig) literals
