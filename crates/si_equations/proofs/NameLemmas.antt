-- Names as they are written, in brackets or not.
use Rattle.std.proofs.Common.{◌≡◌, ◌==◌, ◌&&◌, not, ℕ, Bool, true, false, List, [], ◌∷◌, ◌++◌, refl, sym, ap}
use Rattle.std.proofs.Common.{if◌then◌else◌, Option, Some, option_map, unwrap_or}
use Rattle.std.specs.List.{list_all}
use Rattle.std.proofs.lemmas.Bool.{and_parts, not-true, true≢false}
use Rattle.si_base.specs.Lines.{is_bad}
use Rattle.si_base.specs.Words.{is_letter, is_name_byte, is_signal_name}
use Rattle.si_base.proofs.WordLemmas.{excludes}
use Rattle.si_words.proofs.NameWords.{name_bytes, name_word}
use Rattle.si_words.proofs.WrittenLineLemmas.{AreInLine, append_in_line, word_in_line}
use Rattle.si_genlib.specs.Expression.{is_name, is_constant}
use Rattle.si_genlib.specs.Gate.{ends_expression}
use Rattle.si_equations.specs.Names.{before_bracket, bare}
use Rattle.si_equations.specs.Written.{in_brackets, shown}
use Rattle.si_equations.proofs.TokenLemmas.{ReadsBefore, name_read}

-- ---- bytes of fixed texts

abbrev is_fine : ℕ → Bool
is_fine b = not (b == 10) && (not (b == 35) && not (is_bad b))

fine : (b : ℕ) → is_fine b ≡ true → ((b == 10) ≡ false) × ((b == 35) ≡ false) × (is_bad b ≡ false)
fine b good =
    let parts = and_parts (not (b == 10)) (not (b == 35) && not (is_bad b)) good in
    let others = and_parts (not (b == 35)) (not (is_bad b)) parts.1 in
    (not-true (b == 10) parts.0, not-true (b == 35) others.0, not-true (is_bad b) others.1)

pub fixed_in_line : (t : List ℕ) → list_all is_fine t ≡ true → AreInLine t
fixed_in_line [] all = tt
fixed_in_line (b ∷ t) all =
    let parts = and_parts (is_fine b) (list_all is_fine t) all in (fine b parts.0, fixed_in_line t parts.1)

-- ---- names

-- one token, which is the name
pub record IsToken (name token : List ℕ) : Type 0 where
  pub reads : ReadsBefore token (token ∷ [])
  pub in_line : AreInLine token
  pub named : is_name token ≡ true
  pub goes_on : ends_expression token ≡ false
  pub bare_is : bare token ≡ name

bracket_back : (name : List ℕ) → before_bracket (name ++ 93 ∷ []) ≡ Some name
bracket_back [] = refl
bracket_back (b ∷ []) = refl
bracket_back (b ∷ c ∷ cs) = ap (option_map (λ (bs : List ℕ). b ∷ bs)) (bracket_back (c ∷ cs))

all_then : (xs ys : List ℕ) → list_all is_name_byte xs ≡ true → list_all is_name_byte ys ≡ true
    → list_all is_name_byte (xs ++ ys) ≡ true
all_then [] ys all also = also
all_then (x ∷ xs) ys all also =
    let parts = and_parts (is_name_byte x) (list_all is_name_byte xs) all in
    rw parts.0 (all_then xs ys parts.1 also)

mark_goes_on : (token : List ℕ) → is_name token ≡ true → ends_expression token ≡ false
mark_goes_on [] is = refl
mark_goes_on (b ∷ []) is = excludes is_name_byte 59 b refl is
mark_goes_on (b ∷ c ∷ cs) is = refl

first_plain : (b : ℕ) (bs : List ℕ) → (b == 91) ≡ false → bare (b ∷ bs) ≡ b ∷ bs
first_plain b bs other = rw other refl

pub plain_token : (name : List ℕ) → is_signal_name name ≡ true → IsToken name name
plain_token [] good = absurd (true≢false (sym good))
plain_token (b ∷ bs) good =
    let letter : is_letter b ≡ true = (and_parts (is_letter b) (list_all is_name_byte bs) good).0 in
    let all : list_all is_name_byte (b ∷ bs) ≡ true = name_bytes (b ∷ bs) good in
    let first : is_name_byte b ≡ true = (and_parts (is_name_byte b) (list_all is_name_byte bs) all).0 in record {
      reads = name_read b bs all;
      in_line = word_in_line (b ∷ bs) (name_word (b ∷ bs) good);
      named = first;
      goes_on = mark_goes_on (b ∷ bs) first;
      bare_is = first_plain b bs (excludes is_letter 91 b refl letter);
    }

pub bracket_token : (name : List ℕ) → is_signal_name name ≡ true → IsToken name (in_brackets name)
bracket_token name good =
    let all : list_all is_name_byte (91 ∷ name ++ 93 ∷ []) ≡ true =
    all_then name (93 ∷ []) (name_bytes name good) refl in record {
      reads = name_read 91 (name ++ 93 ∷ []) all;
      in_line = append_in_line (91 ∷ name) (93 ∷ [])
          (append_in_line (91 ∷ []) name (fixed_in_line (91 ∷ []) refl) (word_in_line name (name_word name good)))
          (fixed_in_line (93 ∷ []) refl);
      named = refl;
      goes_on = mark_goes_on (in_brackets name) refl;
      bare_is = ap (λ (o : Option (List ℕ)). unwrap_or o (91 ∷ name ++ 93 ∷ [])) (bracket_back name);
    }

shown_by : (name : List ℕ) (c : Bool) → is_signal_name name ≡ true → is_constant name ≡ c
    → IsToken name (if c then in_brackets name else name)
    × (is_constant (if c then in_brackets name else name) ≡ false)
shown_by name true good is = (bracket_token name good, refl)
shown_by name false good is = (plain_token name good, is)

-- in an expression it is no constant
pub shown_token : (name : List ℕ) → is_signal_name name ≡ true
    → IsToken name (shown name) × (is_constant (shown name) ≡ false)
shown_token name good = shown_by name (is_constant name) good refl
