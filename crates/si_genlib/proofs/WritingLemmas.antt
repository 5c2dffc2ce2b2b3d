-- What the writer of a library has still to add, a step at a time.
use Rattle.std.proofs.Common.{◌≡◌, ℕ, List, [], ◌∷◌, ◌++◌, append_assoc, codes, drop, map, sym, ap, ◌∙◌}
use Rattle.std.proofs.lemmas.Grind.{flat_map-append}
use Rattle.si_base.specs.NetlistText.{sum_words}
use Rattle.si_base.specs.Words.{line, text_of}
use Rattle.si_cell.specs.Library.{Cell, Library}
use Rattle.si_genlib.specs.Written.{cell_line, library_text, signals_in}
use Rattle.si_words.proofs.WritingLemmas.{joined_words}
use Rattle.si_words.specs.Loops.Writing.{spaced}

-- the pins from the i-th on
abbrev pub pins_from : List (List ℕ) → ℕ → List ℕ
pins_from pins i = spaced (drop i pins)

-- the lines of the cells from the i-th on
abbrev pub cells_from : List Cell → ℕ → List ℕ
cells_from cells i = text_of (map cell_line (drop i cells))

-- ---- the line of a cell

six_parts : (text a b c d e f : List ℕ)
    → (((((text ++ a) ++ b) ++ c) ++ d) ++ e) ++ f ≡ text ++ ((a ++ (b ++ (c ++ (d ++ e)))) ++ f)
six_parts text a b c d e f = simp append_assoc

words_after : (name mark : List ℕ) (pins sum : List (List ℕ))
    → spaced (name ∷ pins ++ mark ∷ sum) ≡ 32 ∷ (name ++ (spaced pins ++ 32 ∷ (mark ++ spaced sum)))
words_after name mark pins sum =
    ap (λ (t : List ℕ). 32 ∷ (name ++ t)) (flat_map-append (λ (w : List ℕ). 32 ∷ w) pins (mark ∷ sum))

cell_whole : (text : List ℕ) (cell : Cell)
    → (((((text ++ codes ".cell") ++ 32 ∷ cell.name) ++ spaced cell.pins) ++ 32 ∷ codes "=")
    ++ spaced (sum_words (signals_in cell) cell.sum)) ++ 10 ∷ [] ≡ text ++ line (cell_line cell)
cell_whole text cell =
    let sum : List (List ℕ) = sum_words (signals_in cell) cell.sum in
    six_parts text (codes ".cell") (32 ∷ cell.name) (spaced cell.pins) (32 ∷ codes "=") (spaced sum) (10 ∷ [])
    ∙ ap (λ (t : List ℕ). text ++ ((codes ".cell" ++ t) ++ 10 ∷ []))
    (sym (words_after cell.name (codes "=") cell.pins sum))
    ∙ ap (λ (t : List ℕ). text ++ (t ++ 10 ∷ []))
    (sym (joined_words (codes ".cell") (cell.name ∷ cell.pins ++ codes "=" ∷ sum)))

-- the same, by the texts that the calls leave one after another
pub cell_by_calls : (cell : Cell) (text head named pinned marked all : List ℕ)
    → head ≡ text ++ codes ".cell" → named ≡ head ++ 32 ∷ cell.name → pinned ≡ named ++ spaced cell.pins
    → marked ≡ pinned ++ 32 ∷ codes "=" → all ≡ marked ++ spaced (sum_words (signals_in cell) cell.sum)
    → all ++ 10 ∷ [] ≡ text ++ line (cell_line cell)
cell_by_calls cell text head named pinned marked all head_is named_is pinned_is marked_is all_is =
    rw (all_is, marked_is, pinned_is, named_is, head_is) (cell_whole text cell)

-- ---- the text

pub text_by_calls : (library : Library) (none head cells all : List ℕ) → none ≡ []
    → head ≡ none ++ line (codes ".library" ∷ library.name ∷ [])
    → cells ≡ head ++ text_of (map cell_line library.cells) → all ≡ cells ++ line (codes ".end" ∷ [])
    → all ≡ library_text library
unfolding library_text
text_by_calls library none head cells all none_is head_is cells_are all_is =
    let first : List ℕ = line (codes ".library" ∷ library.name ∷ []) in
    let middle : List (List (List ℕ)) = map cell_line library.cells in
    rw (all_is, cells_are, head_is, none_is) (append_assoc first (text_of middle) (line (codes ".end" ∷ []))
    ∙ ap (λ (t : List ℕ). first ++ t) (sym (flat_map-append line middle ((codes ".end" ∷ []) ∷ []))))
