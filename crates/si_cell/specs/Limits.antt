-- (field) The limits of libraries. The code has them under the same words, in `src/limits.rt`.
use Rattle.std.specs.Prelude.{ℕ, ◌+◌, ◌^◌}

-- the most cells of a library
abbrev pub max_cells : ℕ
max_cells = 64

-- the most pins of a cell
abbrev pub max_pins : ℕ
max_pins = 4

-- how many codes the pins of a cell and its own output have
abbrev pub table_codes : ℕ
table_codes = 2 ^ (max_pins + 1)
