-- (field) Libraries of cells, and the values of their instances.
use Rattle.std.specs.Prelude.{◌≡◌, ◌≢◌, ℕ, ◌<◌, ◌≤◌, ◌+◌, ◌*◌, Bool, List, [], ◌∷◌, ◌++◌, length}
use Rattle.std.specs.Prelude.{map, codes, if◌then◌else◌, slice_index_or, IsTrue, All, AllPairs}
use Rattle.std.specs.Prelude.{true}
use Rattle.std.specs.List.{range_with_len}
use Rattle.si_base.specs.declared.ids.Literal.{Literal}
use Rattle.si_base.specs.Limits.{code_width}
use Rattle.si_base.specs.Netlist.{Sum, literal_value, sum_value}
use Rattle.si_base.specs.WellFormed.{IsSum}
use Rattle.si_base.specs.Words.{is_signal_name}
use Rattle.si_cell.specs.Limits.{max_cells, max_pins, table_codes}
use Rattle.si_cell.specs.declared.pins.Pins.{Pins}
use Rattle.si_cell.specs.declared.pins.Pins.TheVariants.{Any, Plain}

-- the name that stands for a cell's own output
abbrev pub own : List ℕ
own = codes "q"

-- a cell: its name, the names of its pins, and its sum, in which signal i is the i-th pin, from 0,
-- and the signal after the last pin is the cell's own output
pub record Cell : Type 0 where
  pub name : List ℕ
  pub pins : List (List ℕ)
  pub sum : Sum

-- its cells, and which literals the pins of its instances may have
pub record Library : Type 0 where
  pub name : List ℕ
  pub cells : List Cell
  pub pins : Pins

-- whether such a pin may have the literal
abbrev pub admits : Pins → Literal → Bool
admits Any l = true
admits Plain l = l.plain

-- the same cells with pins of that kind
abbrev pub with_pins : Pins → Library → Library
with_pins pins library = record { name = library.name; cells = library.cells; pins = pins }

-- an instance: the place of its cell in the library, and a literal for each pin
pub record Instance : Type 0 where
  pub cell : ℕ
  pub literals : List Literal

-- ---- what holds of each library

-- a pin has a signal name, but for that of the own output
pub record IsPinName (name : List ℕ) : Type 0 where
  pub signal_name : IsTrue (is_signal_name name)
  pub other : name ≢ own

pub record IsCell (cell : Cell) : Type 0 where
  pub name : IsTrue (is_signal_name cell.name)
  pub pins : All IsPinName cell.pins
  pub distinct : AllPairs (λ x y. x ≢ y) cell.pins
  pub few_pins : length cell.pins ≤ max_pins
  pub sum : IsSum (length cell.pins + 1) cell.sum
  pub own_plain : All (All (λ l. l.sig ≡ length cell.pins → IsTrue l.plain)) cell.sum

-- what holds of the cells of each library
pub record AreCells (cells : List Cell) : Type 0 where
  pub each : All IsCell cells
  pub distinct : AllPairs (λ x y. x.name ≢ y.name) cells
  pub few : length cells ≤ max_cells

pub record IsLibrary (library : Library) : Type 0 where
  pub name : IsTrue (is_signal_name library.name)
  pub cells : AreCells library.cells

-- ---- instances

abbrev pub no_cell : Cell
no_cell = record { name = []; pins = []; sum = [] }

-- the cell at a place of the library
abbrev pub cell_at : Library → ℕ → Cell
cell_at library k = slice_index_or library.cells k no_cell

-- a cell of the library, with a literal for each of its pins
pub record IsInstance (library : Library) (i : Instance) : Type 0 where
  pub cell : i.cell < length library.cells
  pub pins : length i.literals ≡ length (cell_at library i.cell).pins
  pub signals : All (λ l. l.sig < code_width) i.literals

-- the code in which the i-th of the values is that of signal i
abbrev pub code_of : List Bool → ℕ
code_of [] = 0
code_of (v ∷ vs) = (if v then 1 else 0) + 2 * code_of vs

-- the truth table of a sum: bit i is its value at the code i
abbrev pub table_of : Sum → ℕ
table_of sum = code_of (map (λ code. sum_value code sum) (range_with_len 0 table_codes))

-- the values of the pins, which are those of these literals at the code, and of the own output
abbrev pub pin_values : List Literal → ℕ → Bool → ℕ
pin_values literals code q = code_of (map (literal_value code) literals ++ q ∷ [])

-- the value of an instance at a code: that of its cell's sum, where the own output has the value q
abbrev pub instance_value : Library → Instance → ℕ → Bool → Bool
instance_value library i code q =
    sum_value (pin_values i.literals code q) (cell_at library i.cell).sum
