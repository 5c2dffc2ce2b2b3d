-- Sets and codes as bits: the definitions at work.
use Rattle.std.proofs.Common.{◌≡◌, ℕ, true, false, List, [], ◌∷◌, refl}
use Rattle.si_base.specs.Bits.{bit}
use Rattle.si_base.specs.Codes.{next_value}
use Rattle.si_base.specs.Sets.{IsIn, flags_of}
use Rattle.si_closures.specs.Loops.WordSearch.{column}
use Rattle.si_examples.proofs.CElement.{coded}

-- two words keep the flags of up to 128 states: here those of 1 and of 65, of 66 states
abbrev words : List ℕ
words = 2 ∷ 2 ∷ []

has_state_1 : IsIn (flags_of 66 words) 1
has_state_1 = refl

has_state_65 : IsIn (flags_of 66 words) 65
has_state_65 = refl

lacks_state_64 : IsIn (flags_of 66 words) 64 → (false ≡ true)
lacks_state_64 there = there

-- at s3 both inputs of the C-element are 1 and will stay so, and its output is about to rise: the
-- next values are 111
next_at_s3 : (bit 7 0 ≡ next_value coded 3 0) × (bit 7 1 ≡ next_value coded 3 1) × (bit 7 2 ≡ next_value coded 3 2)
next_at_s3 = (refl, refl, refl)

-- of three states the set 0 has the last two, and the set 1 has the first and the last
first_column : column 0 (2 ∷ 1 ∷ 3 ∷ []) ≡ false ∷ true ∷ true ∷ []
first_column = refl

second_column : column 1 (2 ∷ 1 ∷ 3 ∷ []) ≡ true ∷ false ∷ true ∷ []
second_column = refl
