-- Divisors by their pins, one pin after another.
use Rattle.std.specs.Prelude.{ℕ, ◌++◌, List, [], length, map, filter, flat_map, if◌then◌else◌}
use Rattle.std.specs.List.{enumerate_from}
use Rattle.si_base.specs.declared.ids.Literal.{Literal}
use Rattle.si_cell.specs.Library.{Cell, Instance}
use Rattle.si_match.specs.Fit.{lists_of}
use Rattle.si_divisor.specs.Divisors.{are_apart, has_few_pins}

-- the instances of the cell with these literals at its first pins and so many of `pins` behind
-- them, in order, on distinct signals
abbrev pub completions : List Literal → ℕ → List Literal → ℕ → List Instance
completions pins cell literals more =
    filter (λ i. are_apart i.literals)
    (map (λ ls. record { cell = cell; literals = literals ++ ls }) (lists_of more pins))

-- those of a cell that stands at that place, if it has few pins
abbrev pub of_cell : List Literal → ℕ × Cell → List Instance
of_cell pins p =
    if has_few_pins (length p.1.pins) then completions pins p.0 [] (length p.1.pins) else []

abbrev pub of_cells : List Literal → List Cell → List Instance
of_cells pins cells = flat_map (of_cell pins) (enumerate_from 0 cells)
