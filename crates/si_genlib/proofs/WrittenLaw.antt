-- The text of a library has no fault, and spells that library.
use Rattle.std.proofs.Common.{◌≡◌, ℕ, ◌+◌, ◌<◌, ◌≤◌, List, [], ◌∷◌, ◌++◌, length, map, refl, sym, ap, subst, ◌∙◌, arith}
use Rattle.std.proofs.Common.{append_assoc, bytes_eq, codes, false, None}
use Rattle.std.proofs.lemmas.List.{append-nil, length-append, length-map}
use Rattle.std.proofs.lemmas.List.Elements.{recursion_from_All}
use Rattle.std.specs.List.{AllByRecursion, enumerate_from, join_with_byte}
use Rattle.si_base.specs.Lines.{Line, numbered}
use Rattle.si_base.specs.Words.{text_of}
use Rattle.si_words.proofs.SumWordLemmas.{list_any-map}
use Rattle.si_words.specs.Ends.{after_last}
use Rattle.si_words.specs.Names.{stands_in}
use Rattle.si_cell.specs.CellWords.{cell_words}
use Rattle.si_cell.specs.Library.{Cell, IsCell, AreCells, Library, IsLibrary, with_pins}
use Rattle.si_cell.specs.Limits.{max_cells}
use Rattle.si_cell.specs.LibraryText.{names_of, cell_line_fault, spelled, cell_lines_fault, cells_in, lines_fault}
use Rattle.si_cell.specs.LibraryText.{library_in, library_fault, library_of}
use Rattle.si_cell.specs.declared.pins.Pins.TheVariants.{Any}
use Rattle.si_genlib.specs.Written.{cell_line, library_lines, library_text}
use Rattle.si_genlib.proofs.WrittenCellLemmas.{at_here, is_new, words_cut, line_good, line_spelled}
use Rattle.si_genlib.proofs.WrittenCellLemmas.{line_words}
use Rattle.si_words.proofs.WrittenLineLemmas.{AreWords, lines_back, lines_in_line, good_line, words_back}
use Rattle.si_words.proofs.NameWords.{name_word}

-- the lines with these words, from the n-th on
abbrev written : ℕ → List (List (List ℕ)) → List Line
written n ls = enumerate_from n (map (join_with_byte 32) ls)

-- ---- the line of a cell, behind those of other cells

module _ (before : List Cell) (cell : Cell) (later : List Cell) (are : AreCells (before ++ cell ∷ later)) where
  is_cell : IsCell cell
  is_cell = at_here IsCell before cell later are.each

  abbrev bytes : List ℕ
  bytes = join_with_byte 32 (cell_line cell)

  new_name : stands_in (names_of before) cell.name ≡ false
  new_name = sym (list_any-map (λ (c : Cell). c.name) (λ n. bytes_eq cell.name n) before)
      ∙ is_new (λ (c : Cell). c.name) before cell later are.distinct

  room : length (names_of before) < max_cells
  room =
      let few : length (before ++ cell ∷ later) ≤ max_cells = are.few in
      omega (arith, few, length-append before (cell ∷ later), length-map before (λ (c : Cell). c.name))

  no_fault : cell_line_fault before bytes ≡ None
  no_fault = rw (
    good_line (cell_line cell) (line_words cell is_cell),
    words_back false (cell_line cell)
        (line_words cell is_cell),
    words_cut cell is_cell,
  ) (line_good cell is_cell (names_of before) new_name room)

  one_more : before ++ spelled (cell_words (cell_line cell)) ≡ before ++ cell ∷ []
  one_more = rw (words_cut cell is_cell) (ap (λ (c : Cell). before ++ c ∷ []) (line_spelled cell is_cell))

abbrev end : List (List (List ℕ))
end = (codes ".end" ∷ []) ∷ []

-- the lines of cells and the end behind them are read, behind lines that spell the cells before
record AreRead (last n : ℕ) (before cells : List Cell) : Type 0 where
  pub fault : cell_lines_fault last before (written n (map cell_line cells ++ end)) ≡ None
  pub cells_are : cells_in before (written n (map cell_line cells ++ end)) ≡ before ++ cells

cells_read : (last n : ℕ) (before cells : List Cell) → AreCells (before ++ cells) → AreRead last n before cells
cells_read last n before [] are = record { fault = refl; cells_are = sym (append-nil before) }
cells_read last n before (cell ∷ cells) are =
    let shift : (before ++ cell ∷ []) ++ cells ≡ before ++ cell ∷ cells = append_assoc before (cell ∷ []) cells in
    let words = words_back false (cell_line cell) (line_words cell (is_cell before cell cells are)) in
    let rest : AreRead last (n + 1) (before ++ cell ∷ []) cells =
    cells_read last (n + 1) (before ++ cell ∷ []) cells (subst AreCells (sym shift) are) in
    record {
      fault = rw (no_fault before cell cells are, words)
          (ap (λ (cs : List Cell). cell_lines_fault last cs (written (n + 1) (map cell_line cells ++ end)))
          (one_more before cell cells are) ∙ rest.fault);
      cells_are = rw words
          (ap (λ (cs : List Cell). cells_in cs (written (n + 1) (map cell_line cells ++ end)))
          (one_more before cell cells are) ∙ rest.cells_are ∙ shift);
    }

-- ---- the text

module _ (library : Library) (is : IsLibrary library) where
  abbrev head : List (List ℕ)
  head = codes ".library" ∷ library.name ∷ []

  head_words : AreWords head
  head_words = (refl, (name_word library.name is.name, tt))

  cells_words : (cells : List Cell) → AllByRecursion IsCell cells → AllByRecursion AreWords (map cell_line cells ++ end)
  cells_words [] are = ((refl, tt), tt)
  cells_words (cell ∷ cells) are = (line_words cell are.0, cells_words cells are.1)

  lines_are : (text : List ℕ) → text ≡ text_of (library_lines library)
      → numbered text ≡ written 1 (library_lines library)
  lines_are text is_text = rw is_text (ap (enumerate_from 1) (lines_back (library_lines library)
      (lines_in_line (library_lines library)
      (head_words, cells_words library.cells (recursion_from_All IsCell library.cells is.cells.each)))))

  read : (last : ℕ) → AreRead last 2 [] library.cells
  read last = cells_read last 2 [] library.cells is.cells

  lines_good : (last : ℕ) → lines_fault last (written 1 (library_lines library)) ≡ None
  lines_good last = rw (good_line head head_words, words_back false head head_words, is.name) (read last).fault

  lines_spell : library_in (written 1 (library_lines library)) ≡ with_pins Any library
  lines_spell =
      let make : List Cell → Library = λ cs. record { name = library.name; cells = cs; pins = Any } in
      rw (words_back false head head_words) (ap make (read 0).cells_are)

  no_fault_in_text : library_fault (library_text library) ≡ None
  unfolding library_text
  no_fault_in_text = ap (lines_fault (after_last (library_text library))) (lines_are (library_text library) refl)
      ∙ lines_good (after_last (library_text library))

  text_spells : library_of (library_text library) ≡ with_pins Any library
  unfolding library_text
  text_spells = ap library_in (lines_are (library_text library) refl) ∙ lines_spell

pub text_reads_back : (library : Library) → IsLibrary library
    → (library_fault (library_text library) ≡ None) × (library_of (library_text library) ≡ with_pins Any library)
text_reads_back library is = (no_fault_in_text library is, text_spells library is)
