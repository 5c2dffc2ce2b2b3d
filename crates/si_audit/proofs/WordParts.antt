-- The parts of a word: a name, and a mark of digits.
use Rattle.std.proofs.Common.{◌≡◌, ℕ, zero, suc, ◌+◌, ◌<◌, List, ◌++◌, length, get_or, take, drop, add-one}
use Rattle.std.proofs.Common.{refl, sym, ap, ap₂, ◌∙◌, arith}
use Rattle.std.proofs.lemmas.List.{take-append-drop, take_at, drop_at}
use Rattle.std.proofs.lemmas.List.FromFn.{fill_by_all, length-map-range_with_len}
use Rattle.si_base.specs.Bits.{bit}
use Rattle.si_circuit.specs.Spelling.{digit, digits, mark}
use Rattle.si_circuit.proofs.SpellingMarks.{digit_at}

-- ---- digits
pub digits_if : (k bits : ℕ) (bytes : List ℕ) → length bytes ≡ k
    → ((j : ℕ) → j < k → get_or bytes j 0 ≡ digit (bit bits j)) → bytes ≡ digits k bits
digits_if k bits bytes size same = fill_by_all (λ (j : ℕ). digit (bit bits j)) bytes k 0 size same

pub not_digits : (k bits i : ℕ) (bytes : List ℕ) → i < k → (get_or bytes i 0 ≡ digit (bit bits i) → ⊥)
    → bytes ≡ digits k bits → ⊥
not_digits k bits i bytes within other same =
    other (ap (λ (xs : List ℕ). get_or xs i 0) same ∙ digit_at k bits i within)

-- ---- marks
pub mark_size : (k bits : ℕ) → 0 < k → length (mark k bits) ≡ k + 1
mark_size zero bits some = absurd (omega arith)
mark_size (suc k) bits some =
    ap (λ (n : ℕ). suc n) (length-map-range_with_len (λ (i : ℕ). digit (bit bits i)) 0 (suc k)) ∙ sym (add-one (suc k))

-- ---- a word that is cut where the name ends
pub cut_word : (word front rest name ending : List ℕ) → front ≡ take (length name) word → rest ≡ drop (length name) word
    → front ≡ name → rest ≡ ending → word ≡ name ++ ending
cut_word word front rest name ending front_is rest_is named ended =
    sym (take-append-drop (length name) word)
    ∙ ap₂ (λ (xs ys : List ℕ). xs ++ ys) (sym front_is ∙ named) (sym rest_is ∙ ended)

pub word_parts : (word front rest name ending : List ℕ) → front ≡ take (length name) word
    → rest ≡ drop (length name) word → word ≡ name ++ ending → (front ≡ name) × (rest ≡ ending)
word_parts word front rest name ending front_is rest_is same = (
  front_is ∙ ap (λ (xs : List ℕ). take (length name) xs) same ∙ take_at name ending (length name) refl,
  rest_is ∙ ap (λ (xs : List ℕ). drop (length name) xs) same ∙ drop_at name ending (length name) refl,
)
