-- (text) The text of a netlist as equations.
use Rattle.std.specs.Prelude.{ℕ, List, [], ◌∷◌, ◌++◌, map, flat_map, filter, codes}
use Rattle.std.specs.Prelude.{if◌then◌else◌}
use Rattle.std.specs.List.{join_by, zip}
use Rattle.si_base.specs.Bytes.{apostrophe, line_feed, opening_bracket, closing_bracket, space}
use Rattle.si_base.specs.declared.ids.Literal.{Literal}
use Rattle.si_base.specs.declared.graph.Signal.{Signal}
use Rattle.si_base.specs.declared.graph.SigKind.TheVariants.{Input, Output}
use Rattle.si_base.specs.Graph.{is_driven}
use Rattle.si_base.specs.Netlist.{Sum, Gate, SumGate, Gc, Cell, Netlist}
use Rattle.si_base.specs.NetlistText.{name_of, names_of}
use Rattle.si_genlib.specs.Expression.{is_constant}

abbrev pub in_brackets : List ℕ → List ℕ
in_brackets name = opening_bracket ∷ name ++ closing_bracket ∷ []

-- a name in an expression; in brackets where it would be a constant without them
abbrev pub shown : List ℕ → List ℕ
shown name = if is_constant name then in_brackets name else name

abbrev pub literal_text : List Signal → Literal → List ℕ
literal_text signals l =
    shown (name_of signals l.sig) ++ (if l.plain then [] else apostrophe ∷ [])

abbrev pub cube_text : List Signal → List Literal → List ℕ
cube_text signals [] = codes "CONST1"
cube_text signals (l ∷ ls) = join_by (literal_text signals) (codes " ") (l ∷ ls)

abbrev pub sum_text : List Signal → Sum → List ℕ
sum_text signals [] = codes "CONST0"
sum_text signals (cube ∷ cubes) = join_by (cube_text signals) (codes " + ") (cube ∷ cubes)

-- the expression of the gate of a signal with this name
abbrev pub gate_text : List Signal → List ℕ → Gate → List ℕ
gate_text signals name (SumGate sum) = sum_text signals sum
gate_text signals name (Gc set reset) = sum_text signals set ++ codes " + " ++ shown name
    ++ codes " (" ++ sum_text signals reset ++ codes ")'"
gate_text signals name (Cell cell literals sum) = sum_text signals sum

-- ---- lines, without their ends

abbrev pub list_line : List ℕ → List (List ℕ) → List ℕ
list_line word names = word ++ codes " =" ++ flat_map (λ name. space ∷ name) names ++ codes ";"

abbrev pub equation_line : List Signal → List ℕ → Gate → List ℕ
equation_line signals name gate =
    in_brackets name ++ codes " = " ++ gate_text signals name gate ++ codes ";"

-- a line for each gate, with the next of the non-inputs among these signals
abbrev pub equation_lines : List Signal → List Signal → List Gate → List (List ℕ)
equation_lines all signals gates = map (λ p. equation_line all p.0.name p.1)
    (zip (filter (λ x. is_driven x.kind) signals) gates)

abbrev pub lines : Netlist → List (List ℕ)
lines n = list_line (codes "INORDER") (names_of Input n.signals)
    ∷ list_line (codes "OUTORDER") (names_of Output n.signals)
    ∷ equation_lines n.signals n.signals n.gates

-- the lines one after another
unfoldable pub equations_text : Netlist → List ℕ
equations_text n = flat_map (λ line. line ++ line_feed ∷ []) (lines n)
