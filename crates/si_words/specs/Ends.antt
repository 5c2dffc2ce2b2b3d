-- (text) The end of a text.
use Rattle.std.specs.Prelude.{ℕ, ◌+◌, List, length}
use Rattle.si_base.specs.Lines.{lines_of}

-- the number of the line after the last
abbrev pub after_last : List ℕ → ℕ
after_last text = length (lines_of text) + 1
