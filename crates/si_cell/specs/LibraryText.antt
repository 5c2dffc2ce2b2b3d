-- (text) The text of a library: its first fault, and the library that a text without one spells.
use Rattle.std.specs.Prelude.{ℕ, not, Bool, false, List, [], ◌∷◌, ◌++◌, map, bytes_eq, codes}
use Rattle.std.specs.Prelude.{if◌then◌else◌, Option, Some, None}
use Rattle.si_base.specs.declared.fault.TextKind.{TextKind}
use Rattle.si_base.specs.declared.fault.TextKind.TheVariants.{BadByte, BadLine, BadName, NoEnd}
use Rattle.si_base.specs.Faults.{when, ◌otherwise◌, at_line}
use Rattle.si_base.specs.Lines.{Line, numbered, words_in, before_comment, has_bad_byte}
use Rattle.si_base.specs.Words.{is_signal_name}
use Rattle.si_words.specs.Ends.{after_last}
use Rattle.si_words.specs.Sums.{is_empty}
use Rattle.si_cell.specs.CellWords.{CellWords, cell_words, cell_fault, cell_of}
use Rattle.si_cell.specs.Library.{Cell, Library}
use Rattle.si_cell.specs.declared.pins.Pins.TheVariants.{Any}

abbrev pub words : List ℕ → List (List ℕ)
words line = words_in false (before_comment line)

-- ---- the line that names the library, the first that has words

abbrev pub name_fault : List (List ℕ) → Option TextKind
name_fault (head ∷ name ∷ []) =
    when (not (bytes_eq (codes ".library") head)) BadLine
    otherwise when (not (is_signal_name name)) BadName
name_fault _ = Some BadLine

abbrev pub name_in : List (List ℕ) → List ℕ
name_in (head ∷ name ∷ ws) = name
name_in _ = []

-- a line without words is passed over
abbrev pub name_words_fault : List (List ℕ) → Option TextKind
name_words_fault [] = None
name_words_fault (w ∷ ws) = name_fault (w ∷ ws)

abbrev pub name_line_fault : List ℕ → Option TextKind
name_line_fault line = when (has_bad_byte line) BadByte otherwise name_words_fault (words line)

-- ---- a line behind it, after these cells

-- `.end` ends the text, whatever words stand behind it
abbrev pub is_end : List (List ℕ) → Bool
is_end [] = false
is_end (w ∷ ws) = bytes_eq (codes ".end") w

abbrev pub names_of : List Cell → List (List ℕ)
names_of cells = map (λ c. c.name) cells

abbrev pub cell_words_fault : List Cell → List (List ℕ) → Option TextKind
cell_words_fault cells [] = None
cell_words_fault cells (w ∷ ws) =
    if is_end (w ∷ ws) then None else cell_fault (names_of cells) (cell_words (w ∷ ws))

abbrev pub cell_line_fault : List Cell → List ℕ → Option TextKind
cell_line_fault cells line =
    when (has_bad_byte line) BadByte otherwise cell_words_fault cells (words line)

abbrev pub spelled : Option CellWords → List Cell
spelled None = []
spelled (Some ws) = cell_of ws ∷ []

abbrev pub with_line : List Cell → List ℕ → List Cell
with_line cells line = cells ++ spelled (cell_words (words line))

-- ---- lines

-- the first fault of these lines up to `.end`, after lines that spell these cells, where the text
-- ends before the line of number `last`
abbrev pub cell_lines_fault : ℕ → List Cell → List Line → Option (ℕ × TextKind)
cell_lines_fault last cells [] = Some (last, NoEnd)
cell_lines_fault last cells (line ∷ lines) =
    at_line line.0 (cell_line_fault cells line.1)
    otherwise (
    if is_end (words line.1) then None
    else cell_lines_fault last (with_line cells line.1) lines
    )

abbrev pub cells_in : List Cell → List Line → List Cell
cells_in cells [] = cells
cells_in cells (line ∷ lines) =
    if is_end (words line.1) then cells else cells_in (with_line cells line.1) lines

-- the first fault of these lines: the first that has words names the library, and those of the
-- cells stand behind it
abbrev pub lines_fault : ℕ → List Line → Option (ℕ × TextKind)
lines_fault last [] = Some (last, NoEnd)
lines_fault last (line ∷ lines) =
    at_line line.0 (name_line_fault line.1)
    otherwise (
    if is_empty (words line.1) then lines_fault last lines
    else cell_lines_fault last [] lines
    )

abbrev pub library_in : List Line → Library
library_in [] = record { name = []; cells = []; pins = Any }
library_in (line ∷ lines) =
    if is_empty (words line.1) then library_in lines
    else record { name = name_in (words line.1); cells = cells_in [] lines; pins = Any }

-- ---- the text

-- the first fault of the text
abbrev pub library_fault : List ℕ → Option (ℕ × TextKind)
library_fault text = lines_fault (after_last text) (numbered text)

-- the library that a text without fault spells
abbrev pub library_of : List ℕ → Library
library_of text = library_in (numbered text)
