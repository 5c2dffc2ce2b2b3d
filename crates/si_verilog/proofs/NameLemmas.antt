-- Names as they are written, and as they are read.
use Rattle.std.proofs.Common.{◌≡◌, ◌≢◌, ℕ, ◌==◌, ◌&&◌, not, Bool, true, false, List, [], ◌∷◌, ◌++◌, length, refl}
use Rattle.std.proofs.Common.{sym, ap, ◌∙◌, bytes_eq, if◌then◌else◌, inl, inr, append_assoc, arith, eqb-true}
use Rattle.std.specs.List.{list_all, list_any}
use Rattle.std.proofs.lemmas.Bool.{true≢false, and_from, and_parts, or_left, or_from, cases_Bool, not-true}
use Rattle.std.proofs.lemmas.Bool.{not_from_false, false_from_ne_true}
use Rattle.std.proofs.lemmas.List.{append-nil}
use Rattle.std.proofs.lemmas.Slice.Eq.{bytes_eq-Decides}
use Rattle.si_base.specs.Words.{is_between, is_letter, is_name_byte, is_signal_name}
use Rattle.si_base.specs.WellFormed.{IsWord}
use Rattle.si_verilog.specs.Keywords.{keywords, is_keyword}
use Rattle.si_verilog.specs.Symbols.{Symbol, Name, Word, Between, Bare, Escaped, is_blank}
use Rattle.si_verilog.specs.Symbols.{is_identifier_byte, is_identifier, is_bare_byte, bare_symbol, escaped_symbol}
use Rattle.si_verilog.specs.Symbols.{symbols_from, symbols_of}
use Rattle.si_verilog.specs.ModuleText.{is_plain_byte, is_plain, is_kept_apart, verilog_name}

-- what holds of each byte holds of each where it follows
all_weaker : (p q : ℕ → Bool) → ((b : ℕ) → p b ≡ true → q b ≡ true) → (xs : List ℕ) → list_all p xs ≡ true
    → list_all q xs ≡ true
all_weaker p q weaker [] all = refl
all_weaker p q weaker (x ∷ xs) all =
    let parts = and_parts (p x) (list_all p xs) all in
    and_from _ _ (weaker x parts.0) (all_weaker p q weaker xs parts.1)

-- ---- keywords

-- no keyword is written as it is
keywords_escaped : list_all (λ k. not (is_plain k)) keywords ≡ true
unfolding keywords
keywords_escaped = refl

none_among : (name : List ℕ) (words : List (List ℕ)) → list_all (λ k. not (is_plain k)) words ≡ true
    → is_plain name ≡ true → list_any (bytes_eq name) words ≡ false
none_among name [] escaped plain = refl
none_among name (w ∷ words) escaped plain =
    let parts = and_parts (not (is_plain w)) _ escaped in
    or_from _ _ (false_from_ne_true (bytes_eq name w) (λ same.
    let is : name ≡ w = (bytes_eq-Decides name w).0 same in
    true≢false (sym plain ∙ ap is_plain is ∙ not-true (is_plain w) parts.0)))
    (none_among name words parts.1 plain)

pub plain_is_no_keyword : (name : List ℕ) → is_plain name ≡ true → is_keyword name ≡ false
unfolding is_keyword
plain_is_no_keyword name plain = none_among name keywords keywords_escaped plain

-- ---- bytes of names

identifier_byte : (b : ℕ) → is_plain_byte b ≡ true → is_identifier_byte b ≡ true
identifier_byte b plain = or_left (is_plain_byte b) (b == 36) plain

bare_byte : (b : ℕ) → is_plain_byte b ≡ true → is_bare_byte b ≡ true
bare_byte b plain = or_left (is_identifier_byte b) (b == 39) (identifier_byte b plain)

bare_letter : (b : ℕ) → is_letter b ≡ true → is_bare_byte b ≡ true
bare_letter b letter = bare_byte b (or_left (is_letter b) (is_between 48 57 b) letter)

pub plain_is_name : (name : List ℕ) → is_plain name ≡ true → bare_symbol name ≡ Name name
plain_is_name [] plain = absurd (true≢false (sym plain))
plain_is_name (b ∷ bs) plain =
    let parts = and_parts (is_letter b && list_all is_plain_byte bs) (is_kept_apart (b ∷ bs)) plain in
    let front = and_parts (is_letter b) (list_all is_plain_byte bs) parts.0 in
    let identifier : is_identifier (b ∷ bs) ≡ true =
    and_from _ _ front.0 (all_weaker is_plain_byte is_identifier_byte identifier_byte bs front.1) in
    named (is_identifier (b ∷ bs)) (is_keyword (b ∷ bs)) identifier (plain_is_no_keyword (b ∷ bs) plain)
  where
    named : (i k : Bool) → i ≡ true → k ≡ false
        → (if i && not k then Name (b ∷ bs) else Word (b ∷ bs)) ≡ Name (b ∷ bs)
    named i k is none = rw (is, none) refl

-- a byte with a property that blanks lack is no blank
pub not_blank : (p : ℕ → Bool) → p 32 ≡ false → p 9 ≡ false → p 10 ≡ false → p 13 ≡ false → p 12 ≡ false
    → (b : ℕ) → p b ≡ true → not (is_blank b) ≡ true
not_blank p space tab feed return form b is = not_from_false (is_blank b)
    (or_from _ _ (or_from _ _ (or_from _ _ (or_from _ _ (other 32 space) (other 9 tab)) (other 10 feed))
    (other 13 return)) (other 12 form))
  where
    other : (c : ℕ) → p c ≡ false → (b == c) ≡ false
    other c lacks = false_from_ne_true (b == c)
        (λ same. true≢false (sym is ∙ ap p (eqb-true b c same) ∙ lacks))

abbrev pub HasNoBlank : List ℕ → Type 0
HasNoBlank name = list_all (λ b. not (is_blank b)) name ≡ true

-- a name that can be written
pub record IsWritable (name : List ℕ) : Type 0 where
  pub some : name ≢ []
  pub dark : HasNoBlank name

pub word_is_writable : (name : List ℕ) → IsWord name → IsWritable name
word_is_writable name word = record {
  some = λ none. absurd (omega (arith, word.some, ap length none));
  dark = all_weaker (is_between 33 126) (λ b. not (is_blank b))
      (not_blank (is_between 33 126) refl refl refl refl refl) name word.bytes;
}

name_byte_dark : (b : ℕ) → is_name_byte b ≡ true → not (is_blank b) ≡ true
name_byte_dark b is = not_blank is_name_byte refl refl refl refl refl b is

pub signal_is_writable : (name : List ℕ) → is_signal_name name ≡ true → IsWritable name
signal_is_writable [] is = absurd (true≢false (sym is))
signal_is_writable (b ∷ bs) is =
    let parts = and_parts (is_letter b) (list_all is_name_byte bs) is in
    record {
      some = λ none. cc;
      dark = and_from _ _ (not_blank is_letter refl refl refl refl refl b parts.0)
          (all_weaker is_name_byte (λ c. not (is_blank c)) name_byte_dark bs parts.1);
    }

-- ---- reading

-- a bare word would go on with it
abbrev pub continues : List ℕ → Bool
continues [] = false
continues (b ∷ bs) = is_bare_byte b

pub ends_here : (word rest : List ℕ) → continues rest ≡ false
    → symbols_from (Bare word) rest ≡ bare_symbol word ∷ symbols_from Between rest
ends_here word [] ends = refl
ends_here word (b ∷ bs) ends = rw ends refl

bare_read : (word bs rest : List ℕ) → list_all is_bare_byte bs ≡ true → continues rest ≡ false
    → symbols_from (Bare word) (bs ++ rest) ≡ bare_symbol (word ++ bs) ∷ symbols_from Between rest
bare_read word [] rest all ends = rw append-nil (ends_here word rest ends)
bare_read word (b ∷ bs) rest all ends =
    let parts = and_parts (is_bare_byte b) (list_all is_bare_byte bs) all in
    let later = bare_read (word ++ b ∷ []) bs rest parts.1 ends in
    rw parts.0 (later ∙ ap (λ (w : List ℕ). bare_symbol w ∷ symbols_from Between rest) (append_assoc word (b ∷ []) bs))

escaped_read : (word bs rest : List ℕ) → HasNoBlank bs
    → symbols_from (Escaped word) (bs ++ 32 ∷ rest) ≡ escaped_symbol (word ++ bs) ∷ symbols_from Between rest
escaped_read word [] rest dark = rw append-nil refl
escaped_read word (b ∷ bs) rest dark =
    let parts = and_parts (not (is_blank b)) _ dark in
    let later = escaped_read (word ++ b ∷ []) bs rest parts.1 in
    rw (not-true (is_blank b) parts.0) (later
    ∙ ap (λ (w : List ℕ). escaped_symbol w ∷ symbols_from Between rest) (append_assoc word (b ∷ []) bs))

plain_read : (name rest : List ℕ) → is_plain name ≡ true → continues rest ≡ false
    → symbols_from Between (name ++ rest) ≡ Name name ∷ symbols_from Between rest
plain_read [] rest plain ends = absurd (true≢false (sym plain))
plain_read (b ∷ bs) rest plain ends =
    let parts = and_parts (is_letter b && list_all is_plain_byte bs) (is_kept_apart (b ∷ bs)) plain in
    let front = and_parts (is_letter b) (list_all is_plain_byte bs) parts.0 in
    let bare = bare_letter b front.0 in
    rw bare (bare_read (b ∷ []) bs rest (all_weaker is_plain_byte is_bare_byte bare_byte bs front.1) ends
    ∙ ap (λ (s : Symbol). s ∷ symbols_from Between rest) (plain_is_name (b ∷ bs) plain))

some_symbol : (name : List ℕ) → name ≢ [] → escaped_symbol name ≡ Name name
some_symbol [] some = absurd (some refl)
some_symbol (b ∷ bs) some = refl

-- a name is read as what was written, whatever stands behind it that no bare word goes on with
pub name_read : (name rest : List ℕ) → IsWritable name → continues rest ≡ false
    → symbols_of (verilog_name name ++ rest) ≡ Name name ∷ symbols_of rest
unfolding verilog_name symbols_of
name_read name rest writable ends = elim (cases_Bool (is_plain name)) [
  | inl plain ↦ rw plain (plain_read name rest plain ends)
  | inr escaped ↦ rw escaped (ap (symbols_from (Escaped [])) (append_assoc name (32 ∷ []) rest)
      ∙ escaped_read [] name rest writable.dark
      ∙ ap (λ (s : Symbol). s ∷ symbols_from Between rest) (some_symbol name writable.some))
]

-- ---- whole names

symbols_none : symbols_of [] ≡ []
unfolding symbols_of
symbols_none = refl

-- a name that is written is read as that name
pub name_back : (name : List ℕ) → IsWord name → symbols_of (verilog_name name) ≡ Name name ∷ []
name_back name word = ap symbols_of (sym (append-nil (verilog_name name)))
    ∙ name_read name [] (word_is_writable name word) refl ∙ ap (λ (s : List Symbol). Name name ∷ s) symbols_none

-- so two names are written in two ways
pub names_apart : (x y : List ℕ) → IsWord x → IsWord y → verilog_name x ≡ verilog_name y → x ≡ y
names_apart x y one other same =
    let read : Name x ∷ [] ≡ Name y ∷ [] = sym (name_back x one) ∙ ap symbols_of same ∙ name_back y other in
    cc

-- and a keyword is escaped
pub keyword_escaped : (name : List ℕ) → is_keyword name ≡ true → verilog_name name ≡ 92 ∷ name ++ 32 ∷ []
unfolding verilog_name
keyword_escaped name keyword = elim (cases_Bool (is_plain name)) [
  | inl plain ↦ absurd (true≢false (sym keyword ∙ plain_is_no_keyword name plain))
  | inr escaped ↦ rw escaped refl
]
