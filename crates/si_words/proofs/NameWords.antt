-- Names: they are words, and the bytes of two tell whether they are one.
use Rattle.std.proofs.Common.{◌≡◌, ◌≢◌, ℕ, ◌==◌, ◌&&◌, not, true, false, List, [], ◌∷◌, All, bytes_eq, refl, sym}
use Rattle.std.proofs.Common.{◌∙◌}
use Rattle.std.proofs.lemmas.Bool.{and_parts, and_from, or_parts, false_from_ne_true, true≢false}
use Rattle.std.proofs.lemmas.List.Elements.{All-nil, All-cons}
use Rattle.std.proofs.lemmas.Slice.Eq.{bytes_eq-Decides}
use Rattle.std.specs.List.{list_all}
use Rattle.si_base.specs.Words.{is_between, is_letter, is_name_byte, is_word_byte, is_signal_name}
use Rattle.si_base.proofs.WordLemmas.{excludes}
use Rattle.si_words.specs.Names.{stands_in}
use Rattle.si_words.proofs.NameByteLemmas.{dark_name_byte}
use Rattle.si_words.proofs.WrittenLineLemmas.{IsWord}

pub name_word_byte : (b : ℕ) → is_name_byte b ≡ true → is_word_byte b ≡ true
name_word_byte b is =
    let third = and_from (is_between 33 126 b) (not (b == 35)) (dark_name_byte b is)
    (rw (excludes is_name_byte 35 b refl is) refl) in
    let second = and_from (is_between 33 126 b && not (b == 35)) (not (b == 123)) third
    (rw (excludes is_name_byte 123 b refl is) refl) in
    and_from (is_between 33 126 b && not (b == 35) && not (b == 123)) (not (b == 125)) second
    (rw (excludes is_name_byte 125 b refl is) refl)

name_word_bytes : (bs : List ℕ) → list_all is_name_byte bs ≡ true → list_all is_word_byte bs ≡ true
name_word_bytes [] all = refl
name_word_bytes (b ∷ bs) all = let parts = and_parts (is_name_byte b) (list_all is_name_byte bs) all in
    and_from (is_word_byte b) (list_all is_word_byte bs) (name_word_byte b parts.0) (name_word_bytes bs parts.1)

pub name_bytes : (n : List ℕ) → is_signal_name n ≡ true → list_all is_name_byte n ≡ true
name_bytes [] named = cc
name_bytes (b ∷ n) named = let parts = and_parts (is_letter b) (list_all is_name_byte n) named in
    rw (parts.0, parts.1) refl

letter_is_name_byte : (b : ℕ) → is_letter b ≡ true → is_name_byte b ≡ true
letter_is_name_byte b is = rw is refl

pub name_word : (n : List ℕ) → is_signal_name n ≡ true → IsWord n
name_word [] named = cc
name_word (b ∷ bs) named =
    let parts = and_parts (is_letter b) (list_all is_name_byte bs) named in
    and_from (is_word_byte b) (list_all is_word_byte bs) (name_word_byte b (letter_is_name_byte b parts.0))
    (name_word_bytes bs parts.1)

-- ---- one name or two
pub same_bytes : (a : List ℕ) → bytes_eq a a ≡ true
same_bytes a = (bytes_eq-Decides a a).1 refl

pub bytes_swap : (n m : List ℕ) → bytes_eq n m ≡ false → bytes_eq m n ≡ false
bytes_swap n m other = false_from_ne_true (bytes_eq m n)
    (λ same. true≢false (sym ((bytes_eq-Decides n m).1 (sym ((bytes_eq-Decides m n).0 same))) ∙ other))

pub other_names : (n : List ℕ) (names : List (List ℕ)) → stands_in names n ≡ false → All (λ m. n ≢ m) names
other_names n [] none = All-nil (λ (m : List ℕ). n ≢ m)
other_names n (m ∷ names) none =
    let parts = or_parts (bytes_eq n m) (stands_in names n) none in
    All-cons (λ (k : List ℕ). n ≢ k) m names (λ same. true≢false (sym ((bytes_eq-Decides n m).1 same) ∙ parts.0))
    (other_names n names parts.1)
