-- (text) The text of a netlist as a module of Verilog.
use Rattle.std.specs.Prelude.{ℕ, ◌==◌, ◌&&◌, ◌||◌, Bool, false, List, [], ◌∷◌, ◌++◌, map, filter}
use Rattle.std.specs.Prelude.{flat_map, length, codes, if◌then◌else◌}
use Rattle.std.specs.List.{list_all, list_any, join_by, zip}
use Rattle.si_base.specs.Bytes.{space, tilde, digit_zero, digit_nine, first_capital, last_capital}
use Rattle.si_base.specs.Bytes.{backslash}
use Rattle.si_base.specs.Words.{is_between, is_letter}
use Rattle.si_base.specs.declared.ids.Literal.{Literal}
use Rattle.si_base.specs.declared.graph.Signal.{Signal}
use Rattle.si_base.specs.declared.graph.SigKind.TheVariants.{Input, Output, Internal, Inserted}
use Rattle.si_base.specs.Graph.{is_driven}
use Rattle.si_base.specs.Netlist.{Sum, Gate, SumGate, Gc, Cell, Netlist}
use Rattle.si_base.specs.NetlistText.{name_of, names_of}
use Rattle.si_verilog.specs.Grammar.{Port, InputPort, OutputPort}

-- ---- names

-- a letter, `_` or a digit
abbrev pub is_plain_byte : ℕ → Bool
is_plain_byte b = is_letter b || is_between digit_zero digit_nine b

abbrev pub is_capital : ℕ → Bool
is_capital b = is_between first_capital last_capital b

-- the name has one byte, or a capital: then it is no keyword
abbrev pub is_kept_apart : List ℕ → Bool
is_kept_apart name = (length name == 1) || list_any is_capital name

-- the name is written as it is
abbrev pub is_plain : List ℕ → Bool
is_plain [] = false
is_plain (b ∷ bs) = is_letter b && list_all is_plain_byte bs && is_kept_apart (b ∷ bs)

-- any other name is escaped: a backslash in front of it, and a blank behind it
unfoldable pub verilog_name : List ℕ → List ℕ
verilog_name name = if is_plain name then name else backslash ∷ name ++ space ∷ []

-- ---- expressions

abbrev pub literal_text : List Signal → Literal → List ℕ
literal_text signals l =
    (if l.plain then [] else tilde ∷ []) ++ verilog_name (name_of signals l.sig)

abbrev pub cube_text : List Signal → List Literal → List ℕ
cube_text signals [] = codes "1'b1"
cube_text signals (l ∷ []) = literal_text signals l
cube_text signals (l ∷ k ∷ ls) =
    codes "(" ++ join_by (literal_text signals) (codes " & ") (l ∷ k ∷ ls) ++ codes ")"

abbrev pub sum_text : List Signal → Sum → List ℕ
sum_text signals [] = codes "1'b0"
sum_text signals (cube ∷ cubes) = join_by (cube_text signals) (codes " | ") (cube ∷ cubes)

-- the expression of the gate of a signal with this name
abbrev pub gate_text : List Signal → List ℕ → Gate → List ℕ
gate_text signals name (SumGate sum) = sum_text signals sum
gate_text signals name (Gc set reset) = codes "(" ++ sum_text signals set ++ codes ") | ("
    ++ verilog_name name ++ codes " & ~(" ++ sum_text signals reset ++ codes "))"
gate_text signals name (Cell cell literals sum) = sum_text signals sum

-- ---- lines

abbrev pub port_text : Port → List ℕ
port_text (InputPort name) = codes "  input " ++ verilog_name name
port_text (OutputPort name) = codes "  output " ++ verilog_name name

-- one line for each port, with a comma between them
abbrev pub ports_text : List Port → List ℕ
ports_text [] = []
ports_text (port ∷ ports) =
    codes "\n" ++ join_by port_text (codes ",\n") (port ∷ ports) ++ codes "\n"

abbrev pub wire_line : List ℕ → List ℕ
wire_line name = codes "  wire " ++ verilog_name name ++ codes ";\n"

-- the line of the gate of a signal with this name
abbrev pub assign_line : List Signal → List ℕ → Gate → List ℕ
assign_line signals name gate =
    codes "  assign " ++ verilog_name name ++ codes " = " ++ gate_text signals name gate
    ++ codes ";\n"

abbrev pub ports_of : List Signal → List Port
ports_of signals =
    map InputPort (names_of Input signals) ++ map OutputPort (names_of Output signals)

abbrev pub wires_of : List Signal → List (List ℕ)
wires_of signals = names_of Internal signals ++ names_of Inserted signals

-- a line for each gate, with the next of the non-inputs among these signals
abbrev pub assign_lines : List Signal → List Signal → List Gate → List ℕ
assign_lines all signals gates = flat_map (λ p. assign_line all p.0.name p.1)
    (zip (filter (λ x. is_driven x.kind) signals) gates)

-- the lines one after another
unfoldable pub verilog_text : Netlist → List ℕ
verilog_text n = codes "module " ++ verilog_name n.model ++ codes "("
    ++ ports_text (ports_of n.signals) ++ codes ");\n"
    ++ flat_map wire_line (wires_of n.signals)
    ++ assign_lines n.signals n.signals n.gates ++ codes "endmodule\n"
