-- (text) The symbols of a text of Verilog, each with its line.
use Rattle.std.specs.Prelude.{ℕ, ◌+◌, ◌==◌, List, [], ◌∷◌, ◌++◌, map, if◌then◌else◌}
use Rattle.si_base.specs.Bytes.{line_feed}
use Rattle.si_verilog.specs.Symbols.{Symbol, Place, Between, symbols_at, next_place, last_symbols}

pub record Placed : Type 0 where
  pub line : ℕ
  pub symbol : Symbol

abbrev pub on_line : ℕ → Symbol → Placed
on_line n symbol = record { line = n; symbol = symbol }

-- behind a line feed the next line begins
abbrev pub line_behind : ℕ → ℕ → ℕ
line_behind n b = if b == line_feed then n + 1 else n

-- those of these bytes, of which the first stands on line n, where reading stands at a place
abbrev pub placed_from : ℕ → Place → List ℕ → List Placed
placed_from n place [] = map (on_line n) (last_symbols place)
placed_from n place (b ∷ bs) = map (on_line n) (symbols_at place b)
    ++ placed_from (line_behind n b) (next_place place b) bs

-- the symbols of a text; lines are counted from 1
unfoldable pub placed_symbols : List ℕ → List Placed
placed_symbols text = placed_from 1 Between text
