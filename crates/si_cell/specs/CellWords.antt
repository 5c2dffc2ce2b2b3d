-- (text) The line of a cell: its fault, and the cell that it spells.
use Rattle.std.specs.Prelude.{ℕ, ◌==◌, ◌||◌, not, List, [], ◌∷◌, ◌++◌, length, nat_le}
use Rattle.std.specs.Prelude.{bytes_eq, codes, if◌then◌else◌, Option, Some, None, Ok, Err, option_map}
use Rattle.std.specs.List.{list_any}
use Rattle.si_base.specs.declared.ids.Literal.{Literal}
use Rattle.si_base.specs.declared.fault.TextKind.{TextKind}
use Rattle.si_base.specs.declared.fault.TextKind.TheVariants.{BadName, Repeated}
use Rattle.si_base.specs.declared.fault.TextKind.TheVariants.{TooManyCells, TooManyPins}
use Rattle.si_base.specs.Faults.{when, ◌otherwise◌, first_after}
use Rattle.si_base.specs.Netlist.{Sum}
use Rattle.si_base.specs.Words.{is_signal_name}
use Rattle.si_words.specs.Names.{stands_in}
use Rattle.si_words.specs.Sums.{cut_at}
use Rattle.si_tokens.specs.LineParts.{Part, made, held, part_fault, part_value}
use Rattle.si_tokens.specs.SumParts.{literal_part, cube_by, sum_by}
use Rattle.si_cell.specs.Library.{Cell, own}
use Rattle.si_cell.specs.Limits.{max_cells, max_pins}
use Rattle.si_cell.specs.Literals.{in_literal_order}

-- ---- the form

-- the words of a line `.cell NAME PINS = SUM`
pub record CellWords : Type 0 where
  pub name : List ℕ
  pub pins : List (List ℕ)
  pub sum : List (List ℕ)

abbrev pub around : List ℕ → List (List ℕ) × List (List ℕ) → CellWords
around name sides = record { name = name; pins = sides.0; sum = sides.1 }

-- the word after `.cell` is the name, whatever it is
abbrev pub cell_words : List (List ℕ) → Option CellWords
cell_words (head ∷ name ∷ ws) =
    if bytes_eq (codes ".cell") head then option_map (around name) (cut_at (codes "=") ws) else None
cell_words _ = None

-- ---- what stands before the sum

-- the name, after the cells of these names
abbrev pub cell_name_fault : List (List ℕ) → List ℕ → Option TextKind
cell_name_fault cells name =
    when (not (is_signal_name name)) BadName
    otherwise when (stands_in cells name) Repeated
    otherwise when (nat_le max_cells (length cells)) TooManyCells

-- a pin, after those before it
abbrev pub pin_fault : List (List ℕ) → List ℕ → Option TextKind
pin_fault before pin =
    when (not (is_signal_name pin) || bytes_eq own pin) BadName
    otherwise when (stands_in before pin) Repeated
    otherwise when (nat_le max_pins (length before)) TooManyPins

-- the faults of the name and the pins, from left to right, after the cells of these names
abbrev pub front_fault : List (List ℕ) → CellWords → Option TextKind
front_fault cells words =
    cell_name_fault cells words.name otherwise first_after pin_fault [] words.pins

-- ---- the sum

-- a literal whose signal stands in no literal before it
abbrev pub new_among : List Literal → Part Literal → Part Literal
new_among before None = None
new_among before (Some (Err kind)) = Some (Err kind)
new_among before (Some (Ok l)) =
    Some (if list_any (λ m. m.sig == l.sig) before then Err Repeated else Ok l)

-- the own output stands only plain
abbrev pub plain_part : List (List ℕ) → List ℕ → Part Literal
plain_part names word =
    if bytes_eq (codes "q'") word then None else literal_part names word

abbrev pub next_literal : List (List ℕ) → List Literal → List ℕ → Part Literal
next_literal names before word = new_among before (plain_part names word)

-- the literals in the order of the names, whatever their order in the text
abbrev pub cube_part : List (List ℕ) → List (List ℕ) → Part (List Literal)
cube_part names words = made in_literal_order (cube_by (next_literal names) words)

abbrev pub sum_part : List (List ℕ) → List (List ℕ) → Part Sum
sum_part names words = sum_by (cube_part names) words

-- the names that literals may have
abbrev pub declared : List (List ℕ) → List (List ℕ)
declared pins = pins ++ own ∷ []

-- ---- the line, after the cells of these names

-- that the sum has another form comes first
abbrev pub line_part : List (List ℕ) → Option CellWords → Part Sum
line_part cells None = None
line_part cells (Some words) =
    held (front_fault cells words) (sum_part (declared words.pins) words.sum)

abbrev pub cell_fault : List (List ℕ) → Option CellWords → Option TextKind
cell_fault cells words = part_fault (line_part cells words)

-- the cell of a line without fault
abbrev pub cell_of : CellWords → Cell
cell_of words = record {
  name = words.name;
  pins = words.pins;
  sum = part_value [] (sum_part (declared words.pins) words.sum);
}
