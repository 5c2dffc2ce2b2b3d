-- (text) The gate that the words of a line spell, or their fault.
use Rattle.std.specs.Prelude.{ℕ, ◌&&◌, List, [], ◌∷◌, length, nat_lt, nat_le, bytes_eq, codes}
use Rattle.std.specs.Prelude.{Option, Some, None, Ok, Err, if◌then◌else◌}
use Rattle.std.specs.List.{list_all}
use Rattle.si_base.specs.declared.ids.Literal.{Literal}
use Rattle.si_base.specs.declared.fault.TextKind.{TextKind}
use Rattle.si_base.specs.declared.fault.TextKind.TheVariants.{BadLine}
use Rattle.si_base.specs.Netlist.{Sum, Gate, SumGate, Gc, Cell}
use Rattle.si_base.specs.Words.{is_signal_name}
use Rattle.si_words.specs.Sums.{cut_at}
use Rattle.si_tokens.specs.LineParts.{Part, made, both, each, part_fault, part_value}
use Rattle.si_tokens.specs.SumParts.{literal_part, cube_by, sum_by}

-- ---- sums

-- a literal whose signal comes after those of the literals before it
abbrev pub in_order : List Literal → Part Literal → Part Literal
in_order before None = None
in_order before (Some (Err kind)) = Some (Err kind)
in_order before (Some (Ok l)) =
    Some (if list_all (λ m. nat_lt m.sig l.sig) before then Ok l else Err BadLine)

abbrev pub next_literal : List (List ℕ) → List Literal → List ℕ → Part Literal
next_literal names before word = in_order before (literal_part names word)

-- `1`, or some literals whose signals rise
abbrev pub cube_part : List (List ℕ) → List (List ℕ) → Part (List Literal)
cube_part names words = cube_by (next_literal names) words

abbrev pub sum_part : List (List ℕ) → List (List ℕ) → Part Sum
sum_part names words = sum_by (cube_part names) words

-- ---- gates

-- the sums that set and reset a generalised C-element, with `|` between them
abbrev pub gc_part : List (List ℕ) → Option (List (List ℕ) × List (List ℕ)) → Part Gate
gc_part names None = None
gc_part names (Some (set, reset)) = both Gc (sum_part names set) (sum_part names reset)

-- the name of a cell and at most four literals, which have no order
abbrev pub pins_part : List (List ℕ) → List ℕ → List (List ℕ) → Part (List Literal)
pins_part names cell pins = if is_signal_name cell && nat_le (length pins) 4
    then each (literal_part names) pins else None

-- a cell with its literals, `:`, and the sum that they make of it
abbrev pub cell_part : List (List ℕ) → Option (List (List ℕ) × List (List ℕ)) → Part Gate
cell_part names None = None
cell_part names (Some ([], sum)) = None
cell_part names (Some (cell ∷ pins, sum)) =
    both (Cell cell) (pins_part names cell pins) (sum_part names sum)

-- the words after the name of the signal
abbrev pub gate_part : List (List ℕ) → List (List ℕ) → Part Gate
gate_part names [] = None
gate_part names (kind ∷ words) =
    if bytes_eq (codes "sum") kind then made SumGate (sum_part names words)
    else if bytes_eq (codes "gc") kind then gc_part names (cut_at (codes "|") words)
    else if bytes_eq (codes "cell") kind then cell_part names (cut_at (codes ":") words)
    else None

-- the line of the signal of that name
abbrev pub line_part : List (List ℕ) → List ℕ → List (List ℕ) → Part Gate
line_part names name [] = None
line_part names name (head ∷ words) =
    if bytes_eq name head then gate_part names words else None

abbrev pub gate_fault : List (List ℕ) → List ℕ → List (List ℕ) → Option TextKind
gate_fault names name words = part_fault (line_part names name words)

-- the gate of a line without fault, by the words after the name
abbrev pub gate_of : List (List ℕ) → List (List ℕ) → Gate
gate_of names words = part_value (SumGate []) (gate_part names words)
