-- Matrices of bits, a number for each row, and how they are turned block after block.
use Rattle.std.specs.Prelude.{◌≡◌, ℕ, ◌+◌, ◌*◌, ◌<◌, true, false, Bool, List, slice_index_or}
use Rattle.si_base.specs.Bits.{bit}

abbrev pub row : List ℕ → ℕ → ℕ
row rows i = slice_index_or rows i 0

-- the bit in column j of row i
abbrev pub cell : List ℕ → ℕ → ℕ → Bool
cell rows i j = bit (row rows i) j

-- the matrix consists of n by n blocks of so many rows and columns: each block stands where it
-- stands in the turned matrix, and isn't turned itself
abbrev pub AreBlocksTurned : ℕ → ℕ → List ℕ → List ℕ → Type 0
AreBlocksTurned n width old new = (p q s t : ℕ) → p < n → q < n → s < width → t < width
    → cell new (p * width + s) (q * width + t) ≡ cell old (q * width + s) (p * width + t)

-- of n blocks beside one another `low` has the columns of the left halves, which have that width
abbrev pub HasHalves : ℕ → ℕ → ℕ → Type 0
HasHalves n width low = (q t : ℕ) → q < n → t < width
    → (bit low (2 * (q * width) + t) ≡ true) × (bit low (2 * (q * width) + t + width) ≡ false)

-- a row of the upper halves and the one that stands so many rows below it: the left columns of
-- each block, which `low` has, go down and change places with the right ones of the row below
pub record AreExchanged (width low above below new_above new_below : ℕ) : Type 0 where
  pub upper_left : (j : ℕ) → bit low j ≡ true → bit new_above j ≡ bit above j
  pub upper_right : (j : ℕ) → j + width < 128 → bit low (j + width) ≡ false
      → bit new_above (j + width) ≡ bit below j
  pub lower_left : (j : ℕ) → bit low j ≡ true → bit new_below j ≡ bit above (j + width)
  pub lower_right : (j : ℕ) → j < 128 → bit low j ≡ false → bit new_below j ≡ bit below j

abbrev pub ArePairExchanged : ℕ → ℕ → List ℕ → List ℕ → ℕ → Type 0
ArePairExchanged width low old new i =
    AreExchanged width low (row old i) (row old (i + width)) (row new i) (row new (i + width))
