-- (field) The functions of a library's cells, as truth tables over a few places. The first place is
-- that of the signal that a gate drives: a cell's own output has its value.
use Rattle.std.specs.Prelude.{ℕ, ◌+◌, ◌↔◌, Bool, List, Contains, map}
use Rattle.std.specs.List.{range_with_len}
use Rattle.si_base.specs.Bits.{bit}
use Rattle.si_base.specs.Netlist.{sum_value}
use Rattle.si_base.specs.declared.ids.Literal.{Literal}
use Rattle.si_cell.specs.Library.{Cell, Library, cell_at, code_of, pin_values}
use Rattle.si_cell.specs.Limits.{max_pins, table_codes}
use Rattle.si_match.specs.Fit.{instances}

-- a place for each pin, and the first
abbrev pub places : ℕ
places = max_pins + 1

-- the value of a cell with these literals of places, where the places have the values of the code m
abbrev pub value_at : Cell → List Literal → ℕ → Bool
value_at cell literals m = sum_value (pin_values literals m (bit m 0)) cell.sum

-- its truth table: bit m is its value at the code m
abbrev pub function_table : Cell → List Literal → ℕ
function_table cell literals = code_of (map (value_at cell literals) (range_with_len 0 table_codes))

-- those of all instances of the library over the places
abbrev pub function_tables : Library → List ℕ
function_tables library =
    map (λ i. function_table (cell_at library i.cell) i.literals) (instances places library)

-- the list has these tables and no other
abbrev pub AreFunctions : Library → List ℕ → Type 0
AreFunctions library tables = (t : ℕ) → Contains tables t ↔ Contains (function_tables library) t
