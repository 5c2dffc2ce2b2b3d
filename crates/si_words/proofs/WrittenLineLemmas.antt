-- A text that was written of lines of words: its lines, and their words.
use Rattle.std.proofs.Common.{◌≡◌, ℕ, ◌≤◌, ◌==◌, ◌&&◌, not, Bool, true, false, List, [], ◌∷◌, ◌++◌, map, length, refl}
use Rattle.std.proofs.Common.{sym, ap, ◌∙◌, arith, append_assoc, take, nat_le}
use Rattle.std.specs.List.{AllByRecursion, prefix_len, join_with_byte, list_all, list_any}
use Rattle.std.proofs.lemmas.Bool.{and_parts, leb-true, le-ltb}
use Rattle.std.proofs.lemmas.List.{append-nil, take_all}
use Rattle.si_base.specs.Lines.{lines_of, put_first, words_in, begins, is_plain, is_blank, is_brace, before_comment}
use Rattle.si_base.specs.Lines.{is_bad, has_bad_byte}
use Rattle.si_base.specs.Words.{text_of, is_word_byte, is_model_name}
use Rattle.si_base.proofs.WordLemmas.{excludes}

-- ---- bytes

-- a byte that neither ends a line, nor begins a comment, nor is bad
abbrev IsInLine : ℕ → Type 0
IsInLine b = ((b == 10) ≡ false) × ((b == 35) ≡ false) × (is_bad b ≡ false)

abbrev pub AreInLine : List ℕ → Type 0
AreInLine bs = AllByRecursion IsInLine bs

word_byte : (b : ℕ) → is_word_byte b ≡ true → IsInLine b
word_byte b good =
    let range = and_parts (nat_le 33 b) (nat_le b 126) (and_parts _ _ (and_parts _ _ (and_parts _ _ good).0).0).0 in
    let low : 33 ≤ b = leb-true 33 b range.0 in
    let high : b ≤ 126 = leb-true b 126 range.1 in (
      excludes is_word_byte 10 b refl good,
      excludes is_word_byte 35 b refl good,
      rw (le-ltb b 32 (omega arith), le-ltb 126 b high) refl,
    )

not_blank : (b : ℕ) → is_word_byte b ≡ true → is_blank b ≡ false
not_blank b good = rw (
  excludes is_word_byte 32 b refl good,
  excludes is_word_byte 9 b refl good,
  excludes is_word_byte 13 b refl good,
) refl

not_brace : (braces : Bool) (b : ℕ) → is_word_byte b ≡ true → (braces && is_brace b) ≡ false
not_brace true b good = rw (excludes is_word_byte 123 b refl good, excludes is_word_byte 125 b refl good) refl
not_brace false b good = refl

pub bytes_in_line : (w : List ℕ) → list_all is_word_byte w ≡ true → AreInLine w
bytes_in_line [] all = tt
bytes_in_line (b ∷ w) all = let parts = and_parts (is_word_byte b) (list_all is_word_byte w) all in
    (word_byte b parts.0, bytes_in_line w parts.1)

pub append_in_line : (v w : List ℕ) → AreInLine v → AreInLine w → AreInLine (v ++ w)
append_in_line [] w one other = other
append_in_line (b ∷ v) w one other = (one.0, append_in_line v w one.1 other)

pub join_in_line : (ws : List (List ℕ)) → AllByRecursion AreInLine ws → AreInLine (join_with_byte 32 ws)
join_in_line [] all = tt
join_in_line (w ∷ []) all = all.0
join_in_line (w ∷ v ∷ ws) all = append_in_line w (32 ∷ join_with_byte 32 (v ∷ ws)) all.0
    ((refl, refl, refl), join_in_line (v ∷ ws) all.1)

all_before : (l : List ℕ) → AreInLine l → prefix_len (λ b. not (b == 35)) l ≡ length l
all_before [] all = refl
all_before (b ∷ l) all = rw (all.0.1, all_before l all.1) (omega arith)

pub no_comment : (l : List ℕ) → AreInLine l → before_comment l ≡ l
no_comment l all = ap (λ (n : ℕ). take n l) (all_before l all) ∙ take_all (length l) l (omega arith)

none_bad : (l : List ℕ) → AreInLine l → list_any is_bad l ≡ false
none_bad [] all = refl
none_bad (b ∷ l) all = rw (all.0.2, none_bad l all.1) refl

pub no_bad_byte : (l : List ℕ) → AreInLine l → has_bad_byte l ≡ false
no_bad_byte l all = ap (list_any is_bad) (no_comment l all) ∙ none_bad l all

-- ---- the lines of a text are those that were written

line_first : (l rest : List ℕ) → AreInLine l → lines_of (l ++ 10 ∷ rest) ≡ l ∷ lines_of rest
line_first [] rest all = refl
line_first (b ∷ l) rest all = rw (all.0.0, line_first l rest all.1) refl

pub lines_back : (ls : List (List (List ℕ))) → AllByRecursion (λ (ws : List (List ℕ)). AllByRecursion AreInLine ws) ls
    → lines_of (text_of ls) ≡ map (join_with_byte 32) ls
lines_back [] all = refl
lines_back (ws ∷ ls) all =
    ap lines_of (append_assoc (join_with_byte 32 ws) (10 ∷ []) (text_of ls))
    ∙ line_first (join_with_byte 32 ws) (text_of ls) (join_in_line ws all.0)
    ∙ ap (λ (l : List (List ℕ)). join_with_byte 32 ws ∷ l) (lines_back ls all.1)

-- ---- lines of words

-- a word of bytes that neither end a word nor begin a comment, and without braces
abbrev pub IsWord : List ℕ → Type 0
IsWord w = is_model_name w ≡ true

abbrev pub AreWords : List (List ℕ) → Type 0
AreWords ws = AllByRecursion IsWord ws

pub word_in_line : (w : List ℕ) → IsWord w → AreInLine w
word_in_line [] good = tt
word_in_line (b ∷ w) good = bytes_in_line (b ∷ w) good

words_in_line : (ws : List (List ℕ)) → AreWords ws → AllByRecursion AreInLine ws
words_in_line [] good = tt
words_in_line (w ∷ ws) good = (word_in_line w good.0, words_in_line ws good.1)

pub lines_in_line : (ls : List (List (List ℕ))) → AllByRecursion AreWords ls
    → AllByRecursion (λ (ws : List (List ℕ)). AllByRecursion AreInLine ws) ls
lines_in_line [] good = tt
lines_in_line (ws ∷ ls) good = (words_in_line ws good.0, lines_in_line ls good.1)

pub good_line : (ws : List (List ℕ)) → AreWords ws → has_bad_byte (join_with_byte 32 ws) ≡ false
good_line ws good = no_bad_byte (join_with_byte 32 ws) (join_in_line ws (words_in_line ws good))

-- ---- the words of a line are those that were written, whether braces are words of their own or not

-- a word, where no word goes on behind it
pub word_first : (braces : Bool) (w rest : List ℕ) → IsWord w → begins (is_plain braces) rest ≡ false
    → words_in braces (w ++ rest) ≡ w ∷ words_in braces rest
word_first braces [] rest good ends = cc
word_first braces (b ∷ w) rest good ends =
    let parts = and_parts (is_word_byte b) (list_all is_word_byte w) good in
    next parts.0 w parts.1 (λ later. word_first braces w rest later ends)
  where
    next : is_word_byte b ≡ true → (v : List ℕ) → list_all is_word_byte v ≡ true
        → (IsWord v → words_in braces (v ++ rest) ≡ v ∷ words_in braces rest)
        → words_in braces (b ∷ v ++ rest) ≡ (b ∷ v) ∷ words_in braces rest
    next first [] all later = rw (not_blank b first, not_brace braces b first, ends) refl
    next first (c ∷ v) all later =
        let second = (and_parts (is_word_byte c) (list_all is_word_byte v) all).0 in
        rw (not_blank b first, not_brace braces b first, not_blank c second, not_brace braces c second)
        (ap (put_first b) (rw (not_blank c second, not_brace braces c second) at later all))

words_joined : (braces : Bool) (ws : List (List ℕ)) → AreWords ws → words_in braces (join_with_byte 32 ws) ≡ ws
words_joined braces [] good = refl
words_joined braces (w ∷ []) good =
    ap (words_in braces) (sym (append-nil w)) ∙ word_first braces w [] good.0 refl
words_joined braces (w ∷ v ∷ ws) good = word_first braces w (32 ∷ join_with_byte 32 (v ∷ ws)) good.0 refl
    ∙ ap (λ (l : List (List ℕ)). w ∷ l) (words_joined braces (v ∷ ws) good.1)

pub words_back : (braces : Bool) (ws : List (List ℕ)) → AreWords ws
    → words_in braces (before_comment (join_with_byte 32 ws)) ≡ ws
words_back braces ws good =
    ap (words_in braces) (no_comment (join_with_byte 32 ws) (join_in_line ws (words_in_line ws good)))
    ∙ words_joined braces ws good
