-- Decimal words, and parts of a line.
use Rattle.std.proofs.Common.{◌≡◌, ℕ, List, [], ◌∷◌, true, false, Some, None, Ok, Err, codes, refl}
use Rattle.si_base.specs.declared.fault.TextKind.TheVariants.{Undeclared}
use Rattle.si_tokens.specs.Decimal.{is_decimal}
use Rattle.si_tokens.specs.LineParts.{each}
use Rattle.si_tokens.specs.SumParts.{literal_part}

signed_with_point : is_decimal (codes "+1.e2") ≡ true
signed_with_point = refl

exponent_without_digit : is_decimal (codes "1e") ≡ false
exponent_without_digit = refl

abbrev names : List (List ℕ)
names = codes "a" ∷ codes "b" ∷ []

literals : each (literal_part names) (codes "b" ∷ codes "a'" ∷ [])
    ≡ Some (Ok (record { sig = 1; plain = true } ∷ record { sig = 0; plain = false } ∷ []))
literals = refl

first_fault : each (literal_part names) (codes "b" ∷ codes "c" ∷ codes "a" ∷ []) ≡ Some (Err Undeclared)
first_fault = refl

-- that a word behind a fault has another form comes first
other_form : each (literal_part names) (codes "c" ∷ codes "+" ∷ []) ≡ None
other_form = refl
