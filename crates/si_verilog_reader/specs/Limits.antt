-- (field) The limit of a cell's module. The code has it under the same word, in `src/limits.rt`.
use Rattle.std.specs.Prelude.{ℕ}

-- the most symbols behind the opening parenthesis of a cell's module: its expression is copied for
-- each instance
abbrev pub max_symbols : ℕ
max_symbols = 4096
