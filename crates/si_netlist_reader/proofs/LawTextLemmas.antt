-- A text by its lines, and lines by their words, both ways.
use Rattle.std.proofs.Common.{if◌then◌else◌, ◌≡◌, ℕ, ◌==◌, ◌≤◌, true, false, not, List, [], ◌∷◌, ◌++◌, map, flat_map}
use Rattle.std.proofs.Common.{refl, ap, ap₂, ◌∙◌, inl, inr, arith, eqb-true, append_assoc, nat_le}
use Rattle.std.proofs.lemmas.Bool.{cases_Bool, or_parts, and_parts, and_from, leb-true, le-leb, eqb-false, not-false}
use Rattle.std.proofs.lemmas.List.Splits.{join_with_byte-slice_split}
use Rattle.std.specs.List.{AllByRecursion, join_with_byte, list_all, onto_first}
use Rattle.si_base.specs.Words.{text_of, is_between}
use Rattle.si_base.proofs.WordLemmas.{NoEnd, no_end_join, LinesClean}
use Rattle.si_words.specs.Sums.{is_empty}
use Rattle.si_words.specs.Lines.{words_of, ended, tail_of, onto_head, has_bad_byte_here}

abbrev pub closed : List ℕ → List ℕ
closed line = line ++ 10 ∷ []

-- a text with nothing after its last line feed is its lines, each closed
pub text_back : (text : List ℕ) → tail_of text ≡ [] → text ≡ flat_map closed (ended text)
text_back [] none = refl
text_back (b ∷ bs) none = elim (cases_Bool (b == 10)) [
  | inl ends ↦ rw ends (ap₂ (λ (c : ℕ) (cs : List ℕ). c ∷ cs) (eqb-true b 10 ends) (text_back bs (rw ends at none)))
  | inr goes ↦ rw goes (longer (ended bs) (tail_of bs) (rw goes at none) (text_back bs))
]
  where
    longer : (lines : List (List ℕ)) (tail : List ℕ) → (if not (is_empty lines) then tail else b ∷ tail) ≡ []
        → (tail ≡ [] → bs ≡ flat_map closed lines) → b ∷ bs ≡ flat_map closed (onto_head b lines)
    longer [] tail none go = absurd cc
    longer (l ∷ ls) tail none go = ap (λ (cs : List ℕ). b ∷ cs) (go none)

pub line_back : (l : List ℕ) → join_with_byte 32 (words_of l) ≡ l
line_back l = join_with_byte-slice_split 32 l

pub lines_back : (ls : List (List ℕ)) → text_of (map words_of ls) ≡ flat_map closed ls
lines_back [] = refl
lines_back (l ∷ ls) = ap₂ (λ (x xs : List ℕ). x ++ 10 ∷ [] ++ xs) (line_back l) (lines_back ls)

-- ---- the other way
pub ended_line : (line rest : List ℕ) → NoEnd line → ended (line ++ 10 ∷ rest) ≡ line ∷ ended rest
ended_line [] rest clean = refl
ended_line (b ∷ bs) rest clean = rw (clean.0, ended_line bs rest clean.1) refl

pub tail_line : (line rest : List ℕ) → NoEnd line → tail_of (line ++ 10 ∷ rest) ≡ tail_of rest
tail_line [] rest clean = refl
tail_line (b ∷ bs) rest clean = rw (clean.0, ended_line bs rest clean.1) (tail_line bs rest clean.1)

pub ended_text : (lines : List (List (List ℕ))) → LinesClean lines
    → ended (text_of lines) ≡ map (join_with_byte 32) lines
ended_text [] clean = refl
ended_text (ws ∷ lines) clean = ap ended (append_assoc (join_with_byte 32 ws) (10 ∷ []) (text_of lines))
    ∙ ended_line (join_with_byte 32 ws) (text_of lines) (no_end_join ws clean.0)
    ∙ ap (λ (ls : List (List ℕ)). join_with_byte 32 ws ∷ ls) (ended_text lines clean.1)

pub tail_text : (lines : List (List (List ℕ))) → LinesClean lines → tail_of (text_of lines) ≡ []
tail_text [] clean = refl
tail_text (ws ∷ lines) clean = ap tail_of (append_assoc (join_with_byte 32 ws) (10 ∷ []) (text_of lines))
    ∙ tail_line (join_with_byte 32 ws) (text_of lines) (no_end_join ws clean.0) ∙ tail_text lines clean.1

-- ---- bytes of words
abbrev pub IsDark : List ℕ → Type 0
IsDark word = list_all (is_between 33 126) word ≡ true

dark_byte : (b : ℕ) → not (is_between 32 126 b) ≡ false → (b == 32) ≡ false → is_between 33 126 b ≡ true
dark_byte b good other =
    let parts = and_parts (nat_le 32 b) (nat_le b 126) (not-false _ good) in
    let low : 32 ≤ b = leb-true 32 b parts.0 in
    let apart : b ≡ 32 → ⊥ = eqb-false b 32 other in
    and_from _ _ (le-leb 33 b (omega arith)) parts.1

onto_dark : (b : ℕ) (parts : List (List ℕ)) → is_between 33 126 b ≡ true → AllByRecursion IsDark parts
    → AllByRecursion IsDark (onto_first b parts)
onto_dark b [] dark all = (rw dark refl, tt)
onto_dark b (p ∷ ps) dark all = (rw dark all.0, all.1)

-- a line without bad bytes has words of bytes from 33 to 126
pub words_dark : (line : List ℕ) → has_bad_byte_here line ≡ false → AllByRecursion IsDark (words_of line)
words_dark [] good = (refl, tt)
words_dark (b ∷ bs) good =
    let parts = or_parts (not (is_between 32 126 b)) _ good in
    elim (cases_Bool (b == 32)) [
      | inl blank ↦ rw blank (refl, words_dark bs parts.1)
      | inr other ↦ rw other (onto_dark b (words_of bs) (dark_byte b parts.0 other) (words_dark bs parts.1))
    ]
