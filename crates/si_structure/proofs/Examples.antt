-- Worked examples: a C-element as a module, controllers of one gate, an inverter, and the values of ports.
use Rattle.std.proofs.Common.{◌≡◌, ℕ, ◌<◌, true, false, List, [], ◌∷◌, ◌++◌, flat_map, refl, codes}
use Rattle.std.proofs.Common.{arith, Some, None}
use Rattle.std.proofs.lemmas.List.Elements.{All-from_recursion}
use Rattle.si_base.specs.Bytes.{opening_parenthesis, closing_parenthesis, dot}
use Rattle.si_base.specs.declared.graph.Signal.{Signal}
use Rattle.si_base.specs.declared.graph.SigKind.{SigKind}
use Rattle.si_base.specs.declared.graph.SigKind.TheVariants.{Input, Output}
use Rattle.si_base.specs.declared.ids.Literal.{Literal}
use Rattle.si_base.specs.Limits.{code_width}
use Rattle.si_base.specs.Netlist.{Cell as CellGate, Netlist, SumGate}
use Rattle.si_cell.specs.Library.{Cell, Library}
use Rattle.si_cell.specs.declared.pins.Pins.TheVariants.{Plain}
use Rattle.si_genlib.specs.Ports.{PortedLibrary, own_ports, with_own_ports}
use Rattle.si_verilog.specs.Keywords.{keywords, is_keyword}
use Rattle.si_verilog.specs.Symbols.{Name, Mark, symbols_of}
use Rattle.si_verilog.specs.Meaning.{named_value}
use Rattle.si_verilog.specs.ModuleText.{verilog_name, verilog_text}
use Rattle.si_resettable.specs.Forcing.{Forcing}
use Rattle.si_structure.specs.Parts.{Connection}
use Rattle.si_structure.specs.Meaning.{port_value}
use Rattle.si_structure.specs.Refusals.{inverts, model_is_cell}
use Rattle.si_structure.specs.declared.complements.Complements.TheVariants.{Refused, Inverted}
use Rattle.si_structure.specs.Loops.Deciding.{AreSmall}
use Rattle.si_structure.specs.Loops.Writing.{connection_texts, gate_lines, gate_wires, placement_lines, wire_lines}
use Rattle.si_structure.specs.StructureText.{PortedCell, cell_netlist, inverted_nets, inverted_pins}
use Rattle.si_structure.specs.StructureText.{driven_net, inverter_of, is_inverter, own_connections, pin_nets}
use Rattle.si_structure.specs.StructureText.{ported_cells, reads_own, structure_text, used_cells}

abbrev plain : ℕ → Literal
plain sig = record { sig = sig; plain = true }

abbrev complement : ℕ → Literal
complement sig = record { sig = sig; plain = false }

abbrev signal : List ℕ → SigKind → Signal
signal name kind = record { name = name; kind = kind }

-- ---- cells

abbrev c2 : Cell
c2 = record {
  name = codes "C2";
  pins = codes "a" ∷ codes "b" ∷ [];
  sum = (plain 0 ∷ plain 1 ∷ []) ∷ (plain 0 ∷ plain 2 ∷ []) ∷ (plain 1 ∷ plain 2 ∷ []) ∷ [];
}

abbrev buffer : Cell
buffer = record { name = codes "BUF"; pins = codes "a" ∷ []; sum = (plain 0 ∷ []) ∷ [] }

c2_reads_own : reads_own c2 ≡ true
c2_reads_own = refl

buffer_does_not : reads_own buffer ≡ false
buffer_does_not = refl

-- its ports have the names of its pins, and `q`
abbrev owned : Cell → PortedCell
owned cell = record { cell = cell; ports = own_ports cell }

c2_text : verilog_text (cell_netlist (owned c2)) ≡
    codes "module C2(\n"
    ++ codes "  input a,\n"
    ++ codes "  input b,\n"
    ++ codes "  input \\q$in ,\n"
    ++ codes "  output q\n"
    ++ codes ");\n"
    ++ codes "  assign q = (a & b) | (a & \\q$in ) | (b & \\q$in );\n"
    ++ codes "endmodule\n"
unfolding verilog_text verilog_name
c2_text = refl

-- ---- a controller of one gate

abbrev cells : Library
cells = record { name = codes "cells"; cells = buffer ∷ c2 ∷ []; pins = Plain }

abbrev owned_cells : PortedLibrary
owned_cells = with_own_ports cells

abbrev join : Netlist
join = record {
  model = codes "join";
  signals = signal (codes "R") Input ∷ signal (codes "S") Input ∷ signal (codes "Z") Output ∷ [];
  start = 0;
  inserts = [];
  gates = CellGate (codes "C2") (plain 0 ∷ plain 1 ∷ [])
      ((plain 0 ∷ plain 1 ∷ []) ∷ (plain 0 ∷ plain 2 ∷ []) ∷ (plain 1 ∷ plain 2 ∷ []) ∷ []) ∷ [];
}

-- the buffer is not used
only_c2 : used_cells owned_cells join ≡ owned c2 ∷ []
only_c2 = refl

other_name : model_is_cell owned_cells join ≡ false
other_name = refl

join_text : structure_text owned_cells join None ≡
    codes "module C2(\n"
    ++ codes "  input a,\n"
    ++ codes "  input b,\n"
    ++ codes "  input \\q$in ,\n"
    ++ codes "  output q\n"
    ++ codes ");\n"
    ++ codes "  assign q = (a & b) | (a & \\q$in ) | (b & \\q$in );\n"
    ++ codes "endmodule\n"
    ++ codes "module \\join (\n"
    ++ codes "  input R,\n"
    ++ codes "  input S,\n"
    ++ codes "  output Z\n"
    ++ codes ");\n"
    ++ codes "  C2 \\Z$gate (.a(R), .b(S), .\\q$in (Z), .q(Z));\n"
    ++ codes "endmodule\n"
unfolding structure_text verilog_text verilog_name
join_text = refl

-- ---- the same with names of ports that another tool gives, and a pin with a complemented literal

abbrev inv : Cell
inv = record { name = codes "INV"; pins = codes "p1" ∷ []; sum = (complement 0 ∷ []) ∷ [] }

abbrev named_cells : PortedLibrary
named_cells = record {
  library = record { name = codes "cells"; cells = c2 ∷ inv ∷ []; pins = Plain };
  ports = record { pins = codes "A" ∷ codes "B" ∷ []; output = codes "Y" }
      ∷ record { pins = codes "I" ∷ []; output = codes "O" } ∷ [];
}

inv_is : is_inverter inv ≡ true
inv_is = refl

buffer_is_none : is_inverter buffer ≡ false
buffer_is_none = refl

first_inverter : inverter_of (ported_cells named_cells)
    ≡ Some (record { cell = inv; ports = record { pins = codes "I" ∷ []; output = codes "O" } })
first_inverter = refl

inverted_where_asked : inverts Inverted named_cells.library.cells ≡ true
inverted_where_asked = refl

else_refused : inverts Refused named_cells.library.cells ≡ false
else_refused = refl

none_to_invert : inverts Inverted cells.cells ≡ false
none_to_invert = refl

-- S is complemented at pin B
abbrev meet : Netlist
meet = record {
  model = codes "meet";
  signals = join.signals;
  start = 0;
  inserts = [];
  gates = CellGate (codes "C2") (plain 0 ∷ complement 1 ∷ [])
      ((plain 0 ∷ complement 1 ∷ []) ∷ (plain 0 ∷ plain 2 ∷ []) ∷ (complement 1 ∷ plain 2 ∷ []) ∷ []) ∷ [];
}

pin_of_meet : flat_map (inverted_pins (ported_cells named_cells)) meet.gates ≡ codes "B" ∷ []
pin_of_meet = refl

net_of_meet : inverted_nets (ported_cells named_cells) meet.signals meet.gates ≡ codes "Z$B$inverted" ∷ []
net_of_meet = refl

nets_of_meet : pin_nets meet.signals (codes "Z") (codes "A" ∷ codes "B" ∷ []) (plain 0 ∷ complement 1 ∷ [])
    ≡ codes "R" ∷ codes "Z$B$inverted" ∷ []
nets_of_meet = refl

meet_text : structure_text named_cells meet None ≡
    codes "module C2(\n"
    ++ codes "  input A,\n"
    ++ codes "  input B,\n"
    ++ codes "  input \\Y$in ,\n"
    ++ codes "  output Y\n"
    ++ codes ");\n"
    ++ codes "  assign Y = (A & B) | (A & \\Y$in ) | (B & \\Y$in );\n"
    ++ codes "endmodule\n"
    ++ codes "module INV(\n"
    ++ codes "  input I,\n"
    ++ codes "  output O\n"
    ++ codes ");\n"
    ++ codes "  assign O = ~I;\n"
    ++ codes "endmodule\n"
    ++ codes "module \\meet (\n"
    ++ codes "  input R,\n"
    ++ codes "  input S,\n"
    ++ codes "  output Z\n"
    ++ codes ");\n"
    ++ codes "  wire \\Z$B$inverted ;\n"
    ++ codes "  INV \\Z$B$inverter (.I(S), .O(\\Z$B$inverted ));\n"
    ++ codes "  C2 \\Z$gate (.A(R), .B(\\Z$B$inverted ), .\\Y$in (Z), .Y(Z));\n"
    ++ codes "endmodule\n"
unfolding structure_text verilog_text verilog_name
meet_text = refl

-- ---- a reset input that forces Z

abbrev forcing : Forcing
forcing = record { name = codes "RST"; forced = 2 ∷ [] }

z_is_freed : driven_net join.signals forcing.forced (codes "Z") ≡ codes "Z$free"
z_is_freed = refl

s_is_not : driven_net join.signals forcing.forced (codes "S") ≡ codes "S"
s_is_not = refl

join_with_reset : structure_text owned_cells join (Some forcing) ≡
    codes "module C2(\n"
    ++ codes "  input a,\n"
    ++ codes "  input b,\n"
    ++ codes "  input \\q$in ,\n"
    ++ codes "  output q\n"
    ++ codes ");\n"
    ++ codes "  assign q = (a & b) | (a & \\q$in ) | (b & \\q$in );\n"
    ++ codes "endmodule\n"
    ++ codes "module \\join (\n"
    ++ codes "  input RST,\n"
    ++ codes "  input R,\n"
    ++ codes "  input S,\n"
    ++ codes "  output Z\n"
    ++ codes ");\n"
    ++ codes "  wire \\Z$free ;\n"
    ++ codes "  assign Z = ~RST & (\\Z$free );\n"
    ++ codes "  C2 \\Z$gate (.a(R), .b(S), .\\q$in (Z), .q(\\Z$free ));\n"
    ++ codes "endmodule\n"
unfolding structure_text verilog_text verilog_name
join_with_reset = refl

-- ---- parts of those texts

pins_of_join : connection_texts c2.pins (codes "R" ∷ codes "S" ∷ []) ≡ codes ".a(R), .b(S), "
unfolding verilog_name
pins_of_join = refl

line_of_join : placement_lines (ported_cells owned_cells) join.signals [] join.signals join.gates
    ≡ codes "  C2 \\Z$gate (.a(R), .b(S), .\\q$in (Z), .q(Z));\n"
unfolding verilog_name
line_of_join = refl

no_line_of_a_sum : gate_lines (ported_cells owned_cells) join.signals [] (codes "Z") (SumGate []) ≡ []
no_line_of_a_sum = refl

wire_of_meet : wire_lines (ported_cells named_cells) meet.signals meet.gates ≡ codes "  wire \\Z$B$inverted ;\n"
unfolding verilog_name
wire_of_meet = refl

no_wire_of_a_sum : gate_wires (ported_cells named_cells) (codes "Z") (SumGate []) ≡ []
no_wire_of_a_sum = refl

two_literals : AreSmall (plain 0 ∷ plain 1 ∷ [])
two_literals = record {
  few = omega arith;
  signals = All-from_recursion (λ (l : Literal). l.sig < code_width) (plain 0 ∷ plain 1 ∷ [])
      (omega arith, (omega arith, tt));
}

-- ---- ports have the values of their nets: R is signal 0, and Z signal 2

abbrev wires : List Connection
wires = record { port = codes "a"; net = codes "R" } ∷ own_connections (owned c2) (codes "Z") (codes "Z")

a_is_r : port_value (named_value join.signals 1) wires (codes "a") ≡ true
a_is_r = refl

fed_back : port_value (named_value join.signals 4) wires (codes "q$in") ≡ true
fed_back = refl

not_connected : port_value (named_value join.signals 7) wires (codes "b") ≡ false
not_connected = refl

one_connection : symbols_of (codes ".\\q$in (Z)")
    ≡ Mark dot ∷ Name (codes "q$in") ∷ Mark opening_parenthesis ∷ Name (codes "Z") ∷ Mark closing_parenthesis ∷ []
unfolding symbols_of is_keyword keywords
one_connection = refl
