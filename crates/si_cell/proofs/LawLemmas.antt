-- What holds of each expanded sum, and of each library that a text spells.
use Rattle.std.proofs.Common.{◌≡◌, ℕ, zero, suc, ◌+◌, ◌<◌, ◌≤◌, not, Bool, true, false, List, [], ◌∷◌, ◌++◌, length}
use Rattle.std.proofs.Common.{map, filter, if◌then◌else◌, bytes_eq, codes, Option, Some, None, All, refl, sym, ◌∙◌}
use Rattle.std.proofs.Common.{arith, inl, inr, Ok, Err}
use Rattle.std.proofs.lemmas.Bool.{true≢false, cases_Bool, not-false}
use Rattle.std.proofs.lemmas.List.{append-nil, length-map}
use Rattle.std.proofs.lemmas.List.Elements.{All-nil, All-cons, All-push, filter_passes}
use Rattle.std.proofs.lemmas.List.Kept.{AllPairs-cons}
use Rattle.si_base.specs.Faults.{when}
use Rattle.si_base.specs.Limits.{code_width}
use Rattle.si_base.specs.Lines.{Line, has_bad_byte, numbered}
use Rattle.si_base.specs.Netlist.{Sum}
use Rattle.si_base.specs.WellFormed.{IsCube, IsSum}
use Rattle.si_base.specs.Words.{is_signal_name}
use Rattle.si_base.specs.declared.fault.TextKind.{TextKind}
use Rattle.si_base.specs.declared.fault.TextKind.TheVariants.{BadByte, BadLine, BadName}
use Rattle.si_base.specs.declared.ids.Literal.{Literal}
use Rattle.si_words.proofs.FaultLemmas.{both, not_when, line_none}
use Rattle.si_words.specs.Sums.{is_empty}
use Rattle.si_cube.specs.Literals.{InSignalOrder}
use Rattle.si_tokens.specs.LineParts.{Part, held, part_fault, part_value}
use Rattle.si_cell.specs.CellWords.{CellWords, cell_words, cell_fault, cell_name_fault, front_fault, sum_part, declared}
use Rattle.si_cell.specs.Expanded.{placed, placed_sum, plain, sources, expanded}
use Rattle.si_cell.specs.Library.{Library, Instance, Cell, IsCell, AreCells, IsLibrary, IsInstance, cell_at}
use Rattle.si_cell.specs.LibraryText.{words, name_words_fault, name_fault, name_in, name_line_fault, is_end, names_of}
use Rattle.si_cell.specs.LibraryText.{cell_words_fault, cell_line_fault, with_line, spelled, cell_lines_fault, cells_in}
use Rattle.si_cell.specs.LibraryText.{lines_fault, library_in, library_fault, library_of}
use Rattle.si_cell.specs.declared.pins.Pins.TheVariants.{Any}
use Rattle.si_cell.specs.Literals.{same_literal, has_literal, complement, both_from, clashes, in_literal_order}
use Rattle.si_cell.proofs.CubeLemmas.{found, same_is}
use Rattle.si_cell.proofs.CellLemmas.{good_pins, good_name, is_cell, more_cells}
use Rattle.si_cell.proofs.ExpandedLemmas.{all_small, placed_small, sum_inside}

-- ---- expanded sums
module _ (cube : List Literal) (apart : clashes cube ≡ false) where
  -- a literal and its complement are not both there
  not_both : (i : ℕ) → has_literal cube (record { sig = i; plain = true }) ≡ true
      → has_literal cube (record { sig = i; plain = false }) ≡ true → ⊥
  not_both i one other =
      let (m, same, every, any) = found (same_literal (record { sig = i; plain = true })) cube one in
      let met : has_literal cube (complement m) ≡ true = rw (← same_is
      (record { sig = i; plain = true }) m same) other in
      true≢false (sym (any (λ l. has_literal cube (complement l)) met) ∙ apart)

  above : (n i : ℕ) → All (λ (l : Literal). i ≤ l.sig) (filter (has_literal cube) (both_from n i))
  above zero i = All-nil (λ (l : Literal). i ≤ l.sig)
  above (suc n) i = by_there (has_literal cube (record { sig = i; plain = true })) (has_literal cube
      (record { sig = i; plain = false }))
      (filter (has_literal cube) (both_from n (i + 1))) (λ k d inside. (let low = above n (i + 1) k d inside in omega
      (arith, low)))
    where
      by_there : (one other : Bool) (rest : List Literal) → All (λ (l : Literal). i ≤ l.sig) rest
          → All (λ (l : Literal). i ≤ l.sig) (if one then record { sig = i; plain = true } ∷
          (if other then record { sig = i; plain = false } ∷ rest else rest) else
          (if other then record { sig = i; plain = false } ∷ rest else rest))
      by_there true true rest later = All-cons (λ (l : Literal). i ≤ l.sig) (record { sig = i; plain = true })
          (record { sig = i; plain = false } ∷ rest) (omega arith) (All-cons (λ (l : Literal). i ≤ l.sig)
          (record { sig = i; plain = false }) rest (omega arith) later)
      by_there true false rest later = All-cons (λ (l : Literal). i ≤ l.sig) (record { sig = i; plain = true }) rest
          (omega arith) later
      by_there false true rest later = All-cons (λ (l : Literal). i ≤ l.sig) (record { sig = i; plain = false }) rest
          (omega arith) later
      by_there false false rest later = later

  rises : (n i : ℕ) → InSignalOrder (filter (has_literal cube) (both_from n i))
  rises zero i = λ j k d order within. absurd (omega arith)
  rises (suc n) i = by_there (has_literal cube (record { sig = i; plain = true })) (has_literal cube
      (record { sig = i; plain = false })) (filter (has_literal cube) (both_from n (i + 1))) (not_both i)
      (λ k d inside. (let low = above n (i + 1) k d inside in omega (arith, low))) (rises n (i + 1))
    where
      by_there : (one other : Bool) (rest : List Literal) → (one ≡ true → other ≡ true → ⊥)
          → All (λ (l : Literal). i < l.sig) rest → InSignalOrder rest
          → InSignalOrder (if one then record { sig = i; plain = true } ∷
          (if other then record { sig = i; plain = false } ∷ rest else rest) else
          (if other then record { sig = i; plain = false } ∷ rest else rest))
      by_there true true rest never low later = absurd (never refl refl)
      by_there true false rest never low later = AllPairs-cons (λ (k l : Literal). k.sig < l.sig)
          (record { sig = i; plain = true }) rest low later
      by_there false true rest never low later = AllPairs-cons (λ (k l : Literal). k.sig < l.sig)
          (record { sig = i; plain = false }) rest low later
      by_there false false rest never low later = later

  is_cube : (n : ℕ) → All (λ (l : Literal). l.sig < n) cube → IsCube n (in_literal_order cube)
  unfolding in_literal_order
  is_cube n small = record {
    rising = rises code_width 0;
    there = λ k d inside. all_small n cube small _ (filter_passes (has_literal cube)
        (both_from code_width 0) k d inside);
  }

placed_is_sum : (n : ℕ) (at_pins : List Literal) (sum : Sum) → All (λ (l : Literal). l.sig < n) at_pins
    → All (All (λ (l : Literal). l.sig < length at_pins)) sum
    → IsSum n (placed_sum at_pins sum)
placed_is_sum n at_pins [] small inside = All-nil (IsCube n)
placed_is_sum n at_pins (cube ∷ cubes) small inside =
    let later = placed_is_sum n at_pins cubes small (λ k d within. inside (suc k) d (omega (arith, within))) in
    elim (cases_Bool (clashes (map (placed at_pins) cube))) [
      | inl meets ↦ rw meets later
      | inr apart ↦ rw apart (All-cons (IsCube n) _ _ (is_cube (map (placed at_pins) cube) apart n
          (placed_small n at_pins cube small (inside 0 cube (omega arith)))) later)
    ]

pub expanded_is_sum : (n : ℕ) (library : Library) (i : Instance) (z : ℕ) → IsLibrary library → IsInstance library i
    → All (λ (l : Literal). l.sig < n) i.literals → z < n → IsSum n (expanded library i z)
unfolding expanded
expanded_is_sum n library i z good is small within =
    placed_is_sum n (sources i.literals z) (cell_at library i.cell).sum (All-push (λ
    (l : Literal). l.sig < n) i.literals (plain z) small within)
    (sum_inside library i z good is)

-- ---- libraries of texts
cell_added : (cells : List Cell) (o : Option CellWords) → AreCells cells → cell_fault (names_of cells) o ≡ None
    → AreCells (cells ++ spelled o)
cell_added cells None good none = absurd cc
cell_added cells (Some w) good none =
    by_parts (front_fault (names_of cells) w) (sum_part (declared w.pins) w.sum) refl refl none
  where
    by_parts : (front : Option TextKind) (part : Part Sum) → front_fault (names_of cells) w ≡ front
        → sum_part (declared w.pins) w.sum ≡ part → part_fault (held front part) ≡ None
        → AreCells (cells ++ record { name = w.name; pins = w.pins; sum = part_value [] part } ∷ [])
    by_parts None None at read none = absurd cc
    by_parts (Some kind) None at read none = absurd cc
    by_parts (Some kind) (Some r) at read none = absurd cc
    by_parts None (Some (Err kind)) at read none = absurd cc
    by_parts None (Some (Ok sum)) at read none =
        let front = both (cell_name_fault (names_of cells) w.name) _ at in
        let name = good_name (names_of cells) w.name front.0 in
        let (pins_good, distinct, few) = good_pins w.pins front.1 in
        let cell = is_cell w.name w.pins w.sum sum name.0 pins_good distinct few read in
        more_cells cells _ good cell name.1 (rw length-map at name.2)

words_added : (cells : List Cell) (ws : List (List ℕ)) → AreCells cells → is_end ws ≡ false
    → cell_words_fault cells ws ≡ None → AreCells (cells ++ spelled (cell_words ws))
words_added cells [] good other none = rw append-nil good
words_added cells (w ∷ ws) good other none = cell_added cells (cell_words (w ∷ ws)) good (rw other at none)

cells_good : (last : ℕ) (cells : List Cell) (lines : List Line) → AreCells cells
    → cell_lines_fault last cells lines ≡ None → AreCells (cells_in cells lines)
cells_good last cells [] good none = good
cells_good last cells (line ∷ lines) good none =
    let parts = line_none line.0 (cell_line_fault cells line.1) _ none in
    elim (cases_Bool (is_end (words line.1))) [
      | inl ends ↦ rw ends good
      | inr other ↦
          let here = both (when (has_bad_byte line.1) BadByte) _ parts.0 in
          rw other (cells_good last (with_line cells line.1) lines (words_added cells
          (words line.1) good other here.1) (rw other at parts.1))
    ]

pub no_cells : AreCells []
no_cells = record {
  each = All-nil IsCell;
  distinct = λ j k d order within. absurd (omega arith);
  few = omega arith;
}

name_good : (ws : List (List ℕ)) → name_fault ws ≡ None → is_signal_name (name_in ws) ≡ true
name_good [] none = absurd cc
name_good (a ∷ []) none = absurd cc
name_good (a ∷ b ∷ c ∷ ws) none = absurd cc
name_good (head ∷ name ∷ []) none =
    let parts = both (when (not (bytes_eq (codes ".library") head)) BadLine) _ none in
    not-false _ (not_when _ BadName parts.1)

lines_good : (last : ℕ) (lines : List Line) → lines_fault last lines ≡ None → IsLibrary (library_in lines)
lines_good last [] none = absurd cc
lines_good last (line ∷ lines) none =
    let parts = line_none line.0 (name_line_fault line.1) _ none in
    let here = both (when (has_bad_byte line.1) BadByte) _ parts.0 in
    by_words (words line.1) (lines_good last lines) here.1 parts.1
  where
    by_words : (ws : List (List ℕ)) → (lines_fault last lines ≡ None → IsLibrary (library_in lines))
        → name_words_fault ws ≡ None → (if is_empty ws then lines_fault last lines else cell_lines_fault last [] lines)
        ≡ None
        → IsLibrary (if is_empty ws then library_in lines else record {
          name = name_in ws;
          cells = cells_in [] lines;
          pins = Any;
        })
    by_words [] later named none = later none
    by_words (w ∷ ws) later named none = record {
      name = name_good
          (w ∷ ws) named;
      cells = cells_good last [] lines no_cells none;
    }

pub text_is_library : (text : List ℕ) → library_fault text ≡ None → IsLibrary (library_of text)
text_is_library text none = lines_good _ (numbered text) none
