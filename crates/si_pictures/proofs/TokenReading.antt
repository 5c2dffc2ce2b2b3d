-- How written statements are read: token by token, whatever stands behind them.
use Rattle.std.proofs.Common.{◌≡◌, ℕ, ◌<◌, ◌==◌, true, false, List, [], ◌∷◌}
use Rattle.std.proofs.Common.{◌++◌, length, flat_map, inl, inr, refl, sym, ap}
use Rattle.std.proofs.Common.{◌∙◌, subst, append_assoc, codes, eqb-true, arith, lit<, leb-true, nat_le, ◌⊎◌, ◌≤◌}
use Rattle.std.specs.List.{list_all}
use Rattle.std.proofs.lemmas.Bool.{cases_Bool, and_parts, or_right, or_from, false_from_ne_true}
use Rattle.std.proofs.lemmas.List.{append-nil}
use Rattle.si_base.specs.Words.{is_digit}
use Rattle.si_pictures.specs.Tokens.{Token, Id, Mark, Between, Bare, Label}
use Rattle.si_pictures.specs.Tokens.{is_bare_byte, is_mark, bare_token, tokens_from}
use Rattle.si_pictures.specs.Grammar.{Attribute}
use Rattle.si_pictures.specs.Grammar.{attribute_tokens}
use Rattle.si_pictures.specs.Writing.{escaped_byte, attribute_text}

-- ---- strings

abbrev Shows : List ℕ → ℕ → List ℕ → Type 0
Shows label b rest = tokens_from (Label label) (escaped_byte b ++ rest) ≡ tokens_from (Label (label ++ b ∷ [])) rest

plain_shown : (label : List ℕ) (b : ℕ) (rest : List ℕ) → (b == 34) ≡ false → (b == 92) ≡ false → (b == 10) ≡ false
    → (b == 38) ≡ false → Shows label b rest
plain_shown label b rest no_quote no_slash no_end no_and =
    let kept : escaped_byte b ≡ b ∷ [] = rw (no_quote, no_slash, no_end, no_and) refl in
    let read : tokens_from (Label label) (b ∷ rest) ≡ tokens_from (Label (label ++ b ∷ [])) rest =
    rw (no_quote, no_slash, no_and) refl in
    ap (λ (t : List ℕ). tokens_from (Label label) (t ++ rest)) kept ∙ read

byte_shown : (label : List ℕ) (b : ℕ) (rest : List ℕ) → Shows label b rest
byte_shown label b rest = elim (cases_Bool (b == 34)) [
  | inl quote ↦ subst (λ x. Shows label x rest) (sym (eqb-true b 34 quote)) refl
  | inr no_quote ↦ elim (cases_Bool (b == 92)) [
    | inl slash ↦ subst (λ x. Shows label x rest) (sym (eqb-true b 92 slash)) refl
    | inr no_slash ↦ elim (cases_Bool (b == 10)) [
      | inl end ↦ subst (λ x. Shows label x rest) (sym (eqb-true b 10 end)) refl
      | inr no_end ↦ elim (cases_Bool (b == 38)) [
        | inl and ↦ subst (λ x. Shows label x rest) (sym (eqb-true b 38 and)) refl
        | inr no_and ↦ plain_shown label b rest no_quote no_slash no_end no_and
      ]
    ]
  ]
]

label_shown : (label value rest : List ℕ)
    → tokens_from (Label label) (flat_map escaped_byte value ++ rest) ≡ tokens_from (Label (label ++ value)) rest
label_shown label [] rest = ap (λ (l : List ℕ). tokens_from (Label l) rest) (sym (append-nil label))
label_shown label (b ∷ value) rest =
    ap (λ (t : List ℕ). tokens_from (Label label) t) (append_assoc (escaped_byte b) (flat_map escaped_byte value) rest)
    ∙ byte_shown label b (flat_map escaped_byte value ++ rest)
    ∙ label_shown (label ++ b ∷ []) value rest
    ∙ ap (λ (l : List ℕ). tokens_from (Label l) rest) (append_assoc label (b ∷ []) value)

-- ---- texts that are read as tokens, whatever stands behind them

abbrev pub Reads : List ℕ → List Token → Type 0
Reads text tokens = (rest : List ℕ) → tokens_from Between (text ++ rest) ≡ tokens ++ tokens_from Between rest

pub both : (a b : List ℕ) (s t : List Token) → Reads a s → Reads b t → Reads (a ++ b) (s ++ t)
both a b s t first next rest = ap (λ (x : List ℕ). tokens_from Between x) (append_assoc a b rest) ∙ first (b ++ rest)
    ∙ ap (λ (u : List Token). s ++ u) (next rest) ∙ sym (append_assoc s t (tokens_from Between rest))

-- the name of an attribute is read in front of `="`
abbrev pub NameReads : List ℕ → Type 0
NameReads name = (rest : List ℕ) → tokens_from Between (name ++ (codes "=\"" ++ rest))
    ≡ Id name ∷ Mark 61 ∷ tokens_from (Label []) rest

pub attribute_read : (a : Attribute) → NameReads a.name → Reads (attribute_text a) (attribute_tokens a)
attribute_read a name rest =
    let value = flat_map escaped_byte a.value in
    ap (λ (t : List ℕ). tokens_from Between t) (regrouped a.name (codes "=\"") value (codes "\"") rest)
    ∙ name (value ++ (codes "\"" ++ rest))
    ∙ ap (λ (u : List Token). Id a.name ∷ Mark 61 ∷ u) (label_shown [] a.value (codes "\"" ++ rest))
  where
    regrouped : (a b c d e : List ℕ) → (a ++ (b ++ (c ++ d))) ++ e ≡ a ++ (b ++ (c ++ (d ++ e)))
    regrouped a b c d e = simp append_assoc

-- ---- numbers

-- a digit is no mark
unmarked : (b : ℕ) → is_digit b ≡ true → is_mark b ≡ false
unmarked b digit =
    let parts = and_parts (nat_le 48 b) (nat_le b 57) digit in
    let low : 48 ≤ b = leb-true 48 b parts.0 in
    let high : b ≤ 57 = leb-true b 57 parts.1 in
    let other : (m : ℕ) → (57 < m) ⊎ (m < 48) → (b == m) ≡ false =
    λ m far. false_from_ne_true (b == m) (λ same. apart m low high (eqb-true b m same) far) in
    let braces = or_from _ _ (other 123 (inl (lit< tt))) (other 125 (inl (lit< tt))) in
    let brackets = or_from _ _ (or_from _ _ braces (other 91 (inl (lit< tt)))) (other 93 (inl (lit< tt))) in
    let comma = or_from _ _ brackets (other 44 (inr (lit< tt))) in
    or_from _ _ (or_from _ _ comma (other 59 (inl (lit< tt)))) (other 61 (inl (lit< tt)))
  where
    apart : (m : ℕ) → 48 ≤ b → b ≤ 57 → b ≡ m → (57 < m) ⊎ (m < 48) → ⊥
    apart m low high same (inl past) = omega (arith, low, high, same, past)
    apart m low high same (inr below) = omega (arith, low, high, same, below)

module _ (rest : List ℕ) where
  number_goes_on : (word bs : List ℕ) → list_all is_digit bs ≡ true
      → tokens_from (Bare word) (bs ++ 32 ∷ rest) ≡ bare_token (word ++ bs) ∷ tokens_from Between rest
  number_goes_on word [] all =
      ap (λ (w : List ℕ). bare_token w ∷ tokens_from Between rest) (sym (append-nil word))
  number_goes_on word (b ∷ bs) all =
      let parts = and_parts (is_digit b) (list_all is_digit bs) all in
      let bare : is_bare_byte b ≡ true = or_right _ _ parts.0 in
      rw bare (number_goes_on (word ++ b ∷ []) bs parts.1
      ∙ ap (λ (w : List ℕ). bare_token w ∷ tokens_from Between rest) (append_assoc word (b ∷ []) bs))

-- digits, and one at least
pub record IsNumber (word : List ℕ) : Type 0 where
  pub some : 0 < length word
  pub digits : list_all is_digit word ≡ true

pub number_read : (word rest : List ℕ) → IsNumber word
    → tokens_from Between (word ++ 32 ∷ rest) ≡ Id word ∷ tokens_from Between rest
number_read [] rest is = absurd (let some = is.some in omega (arith, some))
number_read (b ∷ bs) rest is =
    let parts = and_parts (is_digit b) (list_all is_digit bs) is.digits in
    let bare : is_bare_byte b ≡ true = or_right _ _ parts.0 in
    let whole : bare_token (b ∷ bs) ≡ Id (b ∷ bs) = rw is.digits refl in
    rw (bare, unmarked b parts.0) (number_goes_on rest (b ∷ []) bs parts.1
    ∙ ap (λ (t : Token). t ∷ tokens_from Between rest) whole)
