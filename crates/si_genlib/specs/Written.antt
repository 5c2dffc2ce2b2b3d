-- (text) The text of a library, as it is written.
use Rattle.std.specs.Prelude.{ℕ, List, [], ◌∷◌, ◌++◌, map, codes}
use Rattle.si_base.specs.declared.graph.Signal.{Signal}
use Rattle.si_base.specs.declared.graph.SigKind.TheVariants.{Input, Output}
use Rattle.si_base.specs.GivenGraph.{signals_of}
use Rattle.si_base.specs.NetlistText.{sum_words}
use Rattle.si_base.specs.Words.{text_of}
use Rattle.si_cell.specs.Library.{Cell, Library, own}

-- the signals of a cell's sum: the pins, and the own output behind them
abbrev pub signals_in : Cell → List Signal
signals_in cell = signals_of Input cell.pins ++ signals_of Output (own ∷ [])

abbrev pub cell_line : Cell → List (List ℕ)
cell_line cell =
    codes ".cell" ∷ cell.name ∷ cell.pins ++ codes "=" ∷ sum_words (signals_in cell) cell.sum

-- the lines, each by its words: the name, the cells in order, and the end
abbrev pub library_lines : Library → List (List (List ℕ))
library_lines library =
    (codes ".library" ∷ library.name ∷ []) ∷ map cell_line library.cells ++ (codes ".end" ∷ []) ∷ []

unfoldable pub library_text : Library → List ℕ
library_text library = text_of (library_lines library)
