-- (field) The limit of hidden signals. The code has it under the same word, in `src/limits.rt`.
use Rattle.std.specs.Prelude.{ℕ}

-- the most hidden signals whose start values are searched for
abbrev pub max_hidden : ℕ
max_hidden = 8
