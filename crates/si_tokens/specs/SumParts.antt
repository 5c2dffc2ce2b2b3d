-- (text) Literals, cubes and sums: parts of gate lines and of lines of cells.
use Rattle.std.specs.Prelude.{ℕ, List, [], ◌∷◌, bytes_eq, codes, if◌then◌else◌}
use Rattle.std.specs.Prelude.{Option, Some, None, Result, Ok, Err}
use Rattle.si_base.specs.declared.ids.Literal.{Literal}
use Rattle.si_base.specs.declared.fault.TextKind.{TextKind}
use Rattle.si_base.specs.declared.fault.TextKind.TheVariants.{Undeclared}
use Rattle.si_base.specs.Netlist.{Sum}
use Rattle.si_words.specs.Sums.{is_literal, is_one, literal_name, parts_at, place_in}
use Rattle.si_tokens.specs.LineParts.{Part, each, each_after}

-- the literal of a word whose signal has this place among those declared
abbrev pub literal_at : List ℕ → Option ℕ → Result Literal TextKind
literal_at word None = Err Undeclared
literal_at word (Some place) =
    Ok (record { sig = place; plain = bytes_eq word (literal_name word) })

-- a signal name with or without the mark, where these names are declared: signal i has the i-th
abbrev pub literal_part : List (List ℕ) → List ℕ → Part Literal
literal_part names word =
    if is_literal word then Some (literal_at word (place_in names word)) else None

-- `1`, or some literals, each after those before it
abbrev pub cube_by : (List Literal → List ℕ → Part Literal) → List (List ℕ)
    → Part (List Literal)
cube_by next [] = None
cube_by next (w ∷ ws) =
    if is_one (codes "1") (w ∷ ws) then Some (Ok []) else each_after next [] (w ∷ ws)

-- `0`, or cubes with `+` between them
abbrev pub sum_by : (List (List ℕ) → Part (List Literal)) → List (List ℕ) → Part Sum
sum_by cube words =
    if is_one (codes "0") words then Some (Ok []) else each cube (parts_at (codes "+") words)
