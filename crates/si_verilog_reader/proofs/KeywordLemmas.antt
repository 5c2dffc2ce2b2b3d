-- A keyword is looked for among those of its length.
use Rattle.std.proofs.Common.{◌≡◌, ℕ, zero, suc, ◌+◌, ◌-◌, ◌≤◌, ◌<◌, ◌&&◌, Bool, true, false, List, [], ◌∷◌}
use Rattle.std.proofs.Common.{length, get_or, bytes_eq, nat_le, refl, sym, ap, ◌∙◌, arith}
use Rattle.std.proofs.Math.Bool.{and-false}
use Rattle.std.specs.List.{filter, list_any}
use Rattle.std.proofs.lemmas.Bool.{eq-eqb, false_from_ne_true, leb-true}
use Rattle.std.proofs.lemmas.Map.Views.{any-filter_same}
use Rattle.std.proofs.lemmas.Slice.Eq.{bytes_eq-Decides}
use Rattle.si_verilog.specs.Keywords.{keywords, is_keyword}
use Rattle.si_verilog_reader.specs.Loops.ByLength.{shortest, lengths, has_length, keywords_from, words_in, of_lengths}

equal_words : (word other : List ℕ) → bytes_eq word other ≡ true → other ≡ word
equal_words word other equal = sym ((bytes_eq-Decides word other).0 equal)

-- a word stands in a list exactly if it is one of those of its length
any_of_length : (word : List ℕ) (words : List (List ℕ))
    → list_any (bytes_eq word) (filter (has_length (length word)) words) ≡ list_any (bytes_eq word) words
any_of_length word = any-filter_same (bytes_eq word) (has_length (length word)) true
    (λ other equal. eq-eqb _ _ (ap length (equal_words word other equal)))

-- ---- words that are shorter or longer than all keywords

abbrev has_keyword_length : List ℕ → Bool
has_keyword_length word = nat_le 2 (length word) && nat_le (length word) 19

all_have : filter has_keyword_length keywords ≡ keywords
unfolding keywords
all_have = refl

other_length : (word : List ℕ) → has_keyword_length word ≡ false → false ≡ is_keyword word
unfolding is_keyword
other_length word lacks =
    let none = any-filter_same (bytes_eq word) has_keyword_length false
    (λ other equal. ap has_keyword_length (equal_words word other equal) ∙ lacks) keywords in
    sym none ∙ ap (list_any (bytes_eq word)) all_have

pub too_short : (word : List ℕ) → length word < shortest → false ≡ is_keyword word
too_short word short =
    let under : nat_le 2 (length word) ≡ false = false_from_ne_true _ (λ above. omega (arith, leb-true _ _ above)) in
    other_length word (rw under refl)

-- ---- texts that have the keywords of each length

keywords_at : (n more k : ℕ) → k < more → get_or (keywords_from n more) k [] ≡ filter (has_length (n + k)) keywords
keywords_at n zero k within = absurd (omega (arith, within))
keywords_at n (suc more) zero within =
    let same : n ≡ n + 0 = omega arith in
    ap (λ m. filter (has_length m) keywords) same
keywords_at n (suc more) (suc k) within =
    let below : k < more = omega (arith, within) in
    let same : suc n + k ≡ n + suc k = omega arith in
    keywords_at (suc n) more k below ∙ ap (λ m. filter (has_length m) keywords) same

words_at : (n : ℕ) (texts : List (List ℕ)) (k : ℕ) → k < length texts
    → get_or (of_lengths n texts) k [] ≡ filter (has_length (n + k)) (words_in (get_or texts k []))
words_at n [] k within = absurd (omega (arith, within))
words_at n (text ∷ texts) zero within =
    let same : n ≡ n + 0 = omega arith in
    ap (λ m. filter (has_length m) (words_in text)) same
words_at n (text ∷ texts) (suc k) within =
    let below : k < length texts = omega (arith, within) in
    let same : suc n + k ≡ n + suc k = omega arith in
    words_at (suc n) texts k below ∙ ap (λ m. filter (has_length m) (words_in (get_or texts k []))) same

length-of_lengths : (n : ℕ) (texts : List (List ℕ)) → length (of_lengths n texts) ≡ length texts
length-of_lengths n [] = refl
length-of_lengths n (text ∷ texts) = ap suc (length-of_lengths (suc n) texts)

module _ (texts : List (List ℕ)) (all : of_lengths shortest texts ≡ keywords_from shortest lengths) where
  many : length texts ≡ 18
  many = sym (length-of_lengths shortest texts) ∙ ap length all

  pub too_long : (word : List ℕ) → length texts ≤ length word - shortest → false ≡ is_keyword word
  too_long word long =
      let over : nat_le (length word) 19 ≡ false = false_from_ne_true _
      (λ below. omega (arith, leb-true _ _ below, many)) in
      let lacks = ap (λ b. nat_le 2 (length word) && b) over ∙ and-false (nat_le 2 (length word)) in
      other_length word lacks

  pub found_in : (word text : List ℕ) → shortest ≤ length word → length word - shortest < length texts
      → text ≡ get_or texts (length word - shortest) []
      → list_any (bytes_eq word) (words_in text) ≡ is_keyword word
  unfolding is_keyword
  found_in word text long within here =
      let k : ℕ = length word - 2 in
      let below : k < 18 = omega (arith, within, many) in
      let place : 2 + k ≡ length word = omega (arith, long) in
      let alike = sym (words_at 2 texts k within) ∙ ap (λ ws. get_or ws k []) all ∙ keywords_at 2 18 k below in
      let words = rw place at alike in
      ap (λ t. list_any (bytes_eq word) (words_in t)) here
      ∙ sym (any_of_length word (words_in (get_or texts k []))) ∙ ap (list_any (bytes_eq word)) words
      ∙ any_of_length word keywords
