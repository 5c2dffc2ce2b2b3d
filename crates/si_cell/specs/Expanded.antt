-- (field) The sum of an instance over the signals of its literals.
use Rattle.std.specs.Prelude.{ℕ, not, true, List, [], ◌∷◌, ◌++◌, map, filter, if◌then◌else◌}
use Rattle.std.specs.Prelude.{slice_index_or}
use Rattle.si_base.specs.declared.ids.Literal.{Literal}
use Rattle.si_base.specs.Netlist.{Sum}
use Rattle.si_cell.specs.Library.{Library, Instance, cell_at}
use Rattle.si_cell.specs.Literals.{complement, in_literal_order, clashes}

abbrev pub plain : ℕ → Literal
plain z = record { sig = z; plain = true }

-- what stands at the pins and, after them, at the own output, which is signal z
abbrev pub sources : List Literal → ℕ → List Literal
sources literals z = literals ++ plain z ∷ []

-- what stands for a literal of the cell's sum: the literal at its pin, or the complement of that
abbrev pub placed : List Literal → Literal → Literal
placed at_pins l =
    if l.plain then slice_index_or at_pins l.sig (plain 0)
    else complement (slice_index_or at_pins l.sig (plain 0))

-- the cubes in their order, with equal literals once and in signal order, but for those with a
-- literal and its complement
abbrev pub placed_sum : List Literal → Sum → Sum
placed_sum at_pins sum =
    map in_literal_order (filter (λ cube. not (clashes cube)) (map (map (placed at_pins)) sum))

-- the sum of an instance that drives signal z
unfoldable pub expanded : Library → Instance → ℕ → Sum
expanded library i z = placed_sum (sources i.literals z) (cell_at library i.cell).sum
