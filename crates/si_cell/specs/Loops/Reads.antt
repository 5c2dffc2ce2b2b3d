-- What readers hold and answer, as the definitions see it.
use Rattle.std.specs.Prelude.{◌≡◌, ℕ, Bool, List, [], IsTrue, if◌then◌else◌}
use Rattle.si_base.specs.Lines.{Line}
use Rattle.si_base.specs.Words.{is_signal_name}
use Rattle.si_words.specs.Loops.Reads.{words_now}
use Rattle.si_words.specs.Sums.{parts_at}
use Rattle.si_cell.specs.declared.words.Front.{Front}
use Rattle.si_cell.specs.CellWords.{CellWords}
use Rattle.si_cell.specs.declared.pins.Pins.TheVariants.{Any}
use Rattle.si_cell.specs.LibraryText.{lines_fault, library_in, cell_lines_fault, cells_in}

-- the words of a cell's line, where those of the sum are left
abbrev pub cell_words_now : Front → List (List ℕ) → CellWords
cell_words_now front sum = record {
  name = front.name.now;
  pins = words_now front.pins.items;
  sum = sum;
}

-- the parts of the words left, if there are more
abbrev pub parts_left : List ℕ → Bool → List (List ℕ) → List (List (List ℕ))
parts_left mark more words = if more then parts_at mark words else []

-- the line that names the library was read: the old lines up to it were taken, and the new ones
-- stand behind it
pub record ReadsName (last : ℕ) (old new : List Line) (name : List ℕ) : Type 0 where
  pub fault : lines_fault last old ≡ cell_lines_fault last [] new
  pub library : library_in old ≡ record {
    name = name;
    cells = cells_in [] new;
    pins = Any;
  }
  pub good : IsTrue (is_signal_name name)
