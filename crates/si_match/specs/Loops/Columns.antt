-- A cell of which some of the first pins have literals, at all codes of the places at once.
use Rattle.std.specs.Prelude.{◌≡◌, ℕ, ◌+◌, ◌*◌, ◌<◌, if◌then◌else◌, List, [], ◌∷◌, length}
use Rattle.std.specs.Prelude.{slice_index_or}
use Rattle.si_base.specs.Bits.{bit}
use Rattle.si_base.specs.Netlist.{literal_value, sum_value}
use Rattle.si_base.specs.declared.ids.Literal.{Literal}
use Rattle.si_cell.specs.Library.{Cell}
use Rattle.si_cell.specs.Limits.{table_codes}

-- the values of the first pins, which are those of these literals at the code m, and behind them
-- those of the code `rest`
abbrev pub first_pin_values : List Literal → ℕ → ℕ → ℕ
first_pin_values [] m rest = rest
first_pin_values (l ∷ ls) m rest =
    (if literal_value m l then 1 else 0) + 2 * first_pin_values ls m rest

-- a column for each code of the pins behind them and of the own output: bit m is the cell's value
-- at the code m of the places
abbrev pub AreColumns : Cell → List Literal → List ℕ → Type 0
AreColumns cell literals columns = (rest m : ℕ) → rest < length columns → m < table_codes
    → bit (slice_index_or columns rest 0) m ≡ sum_value (first_pin_values literals m rest) cell.sum
