-- Parts of the text of a controller.
use Rattle.std.specs.Prelude.{ℕ, List, ◌++◌, codes, map, flat_map}
use Rattle.si_base.specs.declared.ids.Literal.{Literal}
use Rattle.si_base.specs.declared.graph.Signal.{Signal}
use Rattle.si_base.specs.Netlist.{Gate}
use Rattle.si_base.specs.NetlistText.{name_of}
use Rattle.si_verilog.specs.ModuleText.{wire_line}
use Rattle.si_structure.specs.Parts.{Placement}
use Rattle.si_structure.specs.StructureText.{PortedCell, cell_instances, complemented, connected}
use Rattle.si_structure.specs.StructureText.{connection_text, driven_gates, gate_instances}
use Rattle.si_structure.specs.StructureText.{in_order, inverted_net, inverted_pins, inverter_if_any}
use Rattle.si_structure.specs.StructureText.{inverter_of, placement_line}

-- ---- wires

-- those of the inverters at these pins of the gate of a signal of this name
abbrev pub pin_wires : List ℕ → List (List ℕ) → List Literal → List ℕ
pin_wires name pins literals =
    flat_map (λ p. wire_line (inverted_net name p.0)) (complemented pins literals)

abbrev pub gate_wires : List PortedCell → List ℕ → Gate → List ℕ
gate_wires cells name gate = flat_map wire_line (map (inverted_net name) (inverted_pins cells gate))

abbrev pub wire_lines : List PortedCell → List Signal → List Gate → List ℕ
wire_lines cells signals gates =
    flat_map (λ p. gate_wires cells p.0.name p.1) (driven_gates signals gates)

-- ---- instances

-- the lines of instances of one signal's gate
abbrev pub lines_of : List Placement → List ℕ
lines_of placements = flat_map placement_line placements

-- those of a cell with these literals
abbrev pub cell_lines : List PortedCell → List Signal → (forced name : List ℕ) → PortedCell
    → List Literal → List ℕ
cell_lines cells signals forced name c literals =
    lines_of (in_order (cell_instances cells signals forced name c literals))

abbrev pub gate_lines : List PortedCell → List Signal → (forced name : List ℕ) → Gate → List ℕ
gate_lines cells signals forced name gate =
    lines_of (flat_map in_order (gate_instances cells signals forced name gate))

-- those of the gates, with the next of the non-inputs among these signals
abbrev pub placement_lines : List PortedCell → List Signal → (forced : List ℕ) → List Signal
    → List Gate → List ℕ
placement_lines cells all forced signals gates =
    flat_map (λ p. gate_lines cells all forced p.0.name p.1) (driven_gates signals gates)

-- the line of the inverter at a pin, if there is a cell for it
abbrev pub inverter_line : List PortedCell → (name pin source : List ℕ) → List ℕ
inverter_line cells name pin source = lines_of (inverter_if_any (inverter_of cells) name pin source)

abbrev pub inverter_lines : List PortedCell → List Signal → List ℕ → List (List ℕ) → List Literal
    → List ℕ
inverter_lines cells signals name pins literals =
    flat_map (λ p. inverter_line cells name p.0 (name_of signals p.1.sig))
    (complemented pins literals)

-- the connections of ports to nets, each before a comma
abbrev pub connection_texts : (ports nets : List (List ℕ)) → List ℕ
connection_texts ports nets = flat_map (λ c. connection_text c ++ codes ", ") (connected ports nets)
