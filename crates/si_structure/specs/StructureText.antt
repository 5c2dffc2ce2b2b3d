-- (text) The text of a netlist as modules: the cells that it uses, and the controller, with an
-- instance of a cell for each gate.
use Rattle.std.specs.Prelude.{ℕ, ◌==◌, ◌&&◌, ◌||◌, not, Bool, false, List, [], ◌∷◌, ◌++◌, map}
use Rattle.std.specs.Prelude.{filter, flat_map, length, bytes_eq, codes, if◌then◌else◌}
use Rattle.std.specs.Prelude.{Option, Some, None}
use Rattle.std.specs.List.{join_by, list_any, zip}
use Rattle.si_base.specs.declared.ids.Literal.{Literal}
use Rattle.si_base.specs.declared.graph.Signal.{Signal}
use Rattle.si_base.specs.declared.graph.SigKind.TheVariants.{Input, Output}
use Rattle.si_base.specs.Bits.{bit}
use Rattle.si_base.specs.Graph.{is_driven}
use Rattle.si_base.specs.Netlist.{Gate, SumGate, Gc, Cell as CellGate, Netlist, sum_value}
use Rattle.si_base.specs.NetlistText.{name_of}
use Rattle.si_netlist.specs.Reads.{sum_reads}
use Rattle.si_cell.specs.Library.{Cell}
use Rattle.si_genlib.specs.Ports.{Ports, PortedLibrary}
use Rattle.si_verilog.specs.Grammar.{Port, InputPort}
use Rattle.si_verilog.specs.ModuleText.{verilog_name, ports_text, wire_line, ports_of, wires_of}
use Rattle.si_verilog.specs.ModuleText.{verilog_text}
use Rattle.si_resettable.specs.Forcing.{Forcing}
use Rattle.si_resettable.specs.ResettableText.{forced_text}
use Rattle.si_structure.specs.Parts.{Connection, Placement}

-- ---- cells with the names of their ports

pub record PortedCell : Type 0 where
  pub cell : Cell
  pub ports : Ports

abbrev pub with_ports : List Cell → List Ports → List PortedCell
with_ports [] ports = []
with_ports (c ∷ cs) [] = []
with_ports (c ∷ cs) (p ∷ ps) = record { cell = c; ports = p } ∷ with_ports cs ps

abbrev pub ported_cells : PortedLibrary → List PortedCell
ported_cells ported = with_ports ported.library.cells ported.ports

-- the first cell of the name
abbrev pub cell_named : List PortedCell → List ℕ → Option PortedCell
cell_named [] name = None
cell_named (c ∷ cs) name = if bytes_eq c.cell.name name then Some c else cell_named cs name

-- ---- a cell as a module

-- the port by which a cell reads its own output: no other port has a `$` in its name
abbrev pub feedback : Ports → List ℕ
feedback ports = ports.output ++ codes "$in"

abbrev pub reads_own : Cell → Bool
reads_own cell = sum_reads cell.sum (length cell.pins)

-- its pins, and that port where its sum reads its own output
abbrev pub cell_inputs : PortedCell → List (List ℕ)
cell_inputs c = c.ports.pins ++ (if reads_own c.cell then feedback c.ports ∷ [] else [])

abbrev pub input : List ℕ → Signal
input name = record { name = name; kind = Input }

abbrev pub output : List ℕ → Signal
output name = record { name = name; kind = Output }

abbrev pub cell_signals : PortedCell → List Signal
cell_signals c = map input (cell_inputs c) ++ output c.ports.output ∷ []

-- a netlist of one gate, which has the cell's sum over its inputs: so its own output is an input
-- like others, and nothing in it holds a value
abbrev pub cell_netlist : PortedCell → Netlist
cell_netlist c = record {
  model = c.cell.name;
  signals = cell_signals c;
  start = 0;
  inserts = [];
  gates = SumGate c.cell.sum ∷ [];
}

-- ---- inverters

-- the cell has one pin, and its sum is the complement of that and reads nothing else
abbrev pub is_inverter : Cell → Bool
is_inverter cell = (length cell.pins == 1) && not (reads_own cell) && sum_value 0 cell.sum
    && not (sum_value 1 cell.sum)

-- the first of the cells that is one
abbrev pub inverter_of : List PortedCell → Option PortedCell
inverter_of [] = None
inverter_of (c ∷ cs) = if is_inverter c.cell then Some c else inverter_of cs

-- ---- the cells that are used

-- the gate has the name of the cell
abbrev pub is_of : Cell → Gate → Bool
is_of cell (SumGate sum) = false
is_of cell (Gc set reset) = false
is_of cell (CellGate name literals sum) = bytes_eq cell.name name

abbrev pub is_complemented : Literal → Bool
is_complemented l = not l.plain

-- a pin of the gate's cell has a complemented literal
abbrev pub has_complemented : Gate → Bool
has_complemented (SumGate sum) = false
has_complemented (Gc set reset) = false
has_complemented (CellGate name literals sum) = list_any is_complemented literals

abbrev pub has_name_of : Cell → Option PortedCell → Bool
has_name_of cell None = false
has_name_of cell (Some c) = bytes_eq cell.name c.cell.name

-- gates have the name of the cell, or it is the inverter of complemented literals
abbrev pub is_used : List PortedCell → Netlist → Cell → Bool
is_used cells n cell = list_any (is_of cell) n.gates
    || (has_name_of cell (inverter_of cells) && list_any has_complemented n.gates)

-- those of the library that are used, in its order
abbrev pub used_cells : PortedLibrary → Netlist → List PortedCell
used_cells ported n = filter (λ c. is_used (ported_cells ported) n c.cell) (ported_cells ported)

-- ---- a reset input

-- the port of the reset input, if there is one
abbrev pub reset_ports : Option Forcing → List Port
reset_ports None = []
reset_ports (Some f) = InputPort f.name ∷ []

-- the signals that it forces
abbrev pub forced_by : Option Forcing → List ℕ
forced_by None = []
forced_by (Some f) = f.forced

-- the net that the gate of a forced signal drives; no signal has a `$` in its name
abbrev pub free_net : List ℕ → List ℕ
free_net name = name ++ codes "$free"

abbrev pub free_nets : List Signal → (forced : List ℕ) → List (List ℕ)
free_nets signals forced = map (λ z. free_net (name_of signals z)) forced

-- the net that the gate of a signal of this name drives: the signal, if it isn't forced
abbrev pub driven_net : List Signal → (forced name : List ℕ) → List ℕ
driven_net signals forced name =
    if list_any (λ z. bytes_eq (name_of signals z) name) forced then free_net name else name

-- the assign of signal z: the reset input forces its start value, or lets the free net through
abbrev pub forced_line : Netlist → (reset : List ℕ) → ℕ → List ℕ
forced_line n reset z = codes "  assign " ++ verilog_name (name_of n.signals z) ++ codes " = "
    ++ forced_text reset (bit n.start z) (verilog_name (free_net (name_of n.signals z)))
    ++ codes ";\n"

abbrev pub reset_lines : Netlist → Option Forcing → List ℕ
reset_lines n None = []
reset_lines n (Some f) = flat_map (forced_line n f.name) f.forced

-- ---- instances

-- the instance of a signal's gate; no signal has a `$` in its name
abbrev pub instance_name : List ℕ → List ℕ
instance_name name = name ++ codes "$gate"

-- the inverter at a pin of the gate of a signal, and the net that it drives
abbrev pub inverter_name : (name pin : List ℕ) → List ℕ
inverter_name name pin = name ++ codes "$" ++ pin ++ codes "$inverter"

abbrev pub inverted_net : (name pin : List ℕ) → List ℕ
inverted_net name pin = name ++ codes "$" ++ pin ++ codes "$inverted"

-- each port is connected to the net in its place
abbrev pub connected : (ports nets : List (List ℕ)) → List Connection
connected ports nets = map (λ p. record { port = p.0; net = p.1 }) (zip ports nets)

-- the output is connected to the net that it drives, and where the cell reads its own output, the
-- port by which it does to the net that it reads
abbrev pub own_connections : PortedCell → (read driven : List ℕ) → List Connection
own_connections c read driven =
    (if reads_own c.cell then record { port = feedback c.ports; net = read } ∷ [] else [])
    ++ record { port = c.ports.output; net = driven } ∷ []

-- an instance of the cell with these nets at its pins
abbrev pub placed : (instance : List ℕ) → PortedCell → (nets : List (List ℕ))
    → (read driven : List ℕ) → Placement
placed instance c nets read driven = record {
  cell = c.cell.name;
  name = instance;
  connections = connected c.ports.pins nets ++ own_connections c read driven;
}

-- a pin reads the signal of its literal, or the net of an inverter where that is complemented
abbrev pub pin_net : List Signal → (name pin : List ℕ) → Literal → List ℕ
pin_net signals name pin l =
    if l.plain then name_of signals l.sig else inverted_net name pin

abbrev pub pin_nets : List Signal → List ℕ → List (List ℕ) → List Literal → List (List ℕ)
pin_nets signals name pins literals = map (λ p. pin_net signals name p.0 p.1) (zip pins literals)

-- the complemented literals, each with its pin
abbrev pub complemented : List (List ℕ) → List Literal → List (List ℕ × Literal)
complemented pins literals = filter (λ p. is_complemented p.1) (zip pins literals)

-- an inverter from a net, at a pin of the gate of a signal of this name
abbrev pub inverter_placed : PortedCell → (name pin source : List ℕ) → Placement
inverter_placed inverter name pin source =
    placed (inverter_name name pin) inverter (source ∷ []) (inverted_net name pin)
    (inverted_net name pin)

-- none where there is no cell for it
abbrev pub inverter_if_any : Option PortedCell → (name pin source : List ℕ) → List Placement
inverter_if_any None name pin source = []
inverter_if_any (Some inverter) name pin source = inverter_placed inverter name pin source ∷ []

-- one for each complemented literal, from its signal
abbrev pub inverters_placed : Option PortedCell → List Signal → List ℕ → List (List ℕ)
    → List Literal → List Placement
inverters_placed inverter signals name pins literals =
    flat_map (λ p. inverter_if_any inverter name p.0 (name_of signals p.1.sig))
    (complemented pins literals)

-- the instances for a gate: inverters at its pins, and behind them its own
pub record GateInstances : Type 0 where
  pub inverters : List Placement
  pub gate : Placement

abbrev pub in_order : GateInstances → List Placement
in_order i = i.inverters ++ i.gate ∷ []

-- those for a cell with these literals, as the gate of a signal of this name
abbrev pub cell_instances : List PortedCell → List Signal → (forced name : List ℕ) → PortedCell
    → List Literal → GateInstances
cell_instances cells signals forced name c literals = record {
  inverters = inverters_placed (inverter_of cells) signals name c.ports.pins literals;
  gate = placed (instance_name name) c (pin_nets signals name c.ports.pins literals) name
      (driven_net signals forced name);
}

abbrev pub instances_if_any : List PortedCell → List Signal → (forced name : List ℕ)
    → Option PortedCell → List Literal → List GateInstances
instances_if_any cells signals forced name None literals = []
instances_if_any cells signals forced name (Some c) literals =
    cell_instances cells signals forced name c literals ∷ []

-- those for the gate of a signal of this name: none where it has no cell
abbrev pub gate_instances : List PortedCell → List Signal → (forced name : List ℕ) → Gate
    → List GateInstances
gate_instances cells signals forced name (SumGate sum) = []
gate_instances cells signals forced name (Gc set reset) = []
gate_instances cells signals forced name (CellGate cell literals sum) =
    instances_if_any cells signals forced name (cell_named cells cell) literals

-- the non-inputs among the signals, each with its gate
abbrev pub driven_gates : List Signal → List Gate → List (Signal × Gate)
driven_gates signals gates = zip (filter (λ x. is_driven x.kind) signals) gates

-- those for the gates, with the next of the non-inputs among these signals
abbrev pub instances_from : List PortedCell → List Signal → (forced : List ℕ) → List Signal
    → List Gate → List GateInstances
instances_from cells all forced signals gates =
    flat_map (λ p. gate_instances cells all forced p.0.name p.1) (driven_gates signals gates)

-- ---- the nets of inverters

abbrev pub pins_if_any : Option PortedCell → List Literal → List (List ℕ)
pins_if_any None literals = []
pins_if_any (Some c) literals = map (λ p. p.0) (complemented c.ports.pins literals)

-- the pins of the gate's cell that have complemented literals
abbrev pub inverted_pins : List PortedCell → Gate → List (List ℕ)
inverted_pins cells (SumGate sum) = []
inverted_pins cells (Gc set reset) = []
inverted_pins cells (CellGate cell literals sum) = pins_if_any (cell_named cells cell) literals

-- a net for each, gate by gate
abbrev pub inverted_nets : List PortedCell → List Signal → List Gate → List (List ℕ)
inverted_nets cells signals gates =
    flat_map (λ p. map (inverted_net p.0.name) (inverted_pins cells p.1))
    (driven_gates signals gates)

-- ---- the text

abbrev pub connection_text : Connection → List ℕ
connection_text c =
    codes "." ++ verilog_name c.port ++ codes "(" ++ verilog_name c.net ++ codes ")"

abbrev pub placement_line : Placement → List ℕ
placement_line p =
    codes "  " ++ verilog_name p.cell ++ codes " " ++ verilog_name p.name ++ codes "("
    ++ join_by connection_text (codes ", ") p.connections ++ codes ");\n"

-- the lines of a module before what drives its signals; other ports may stand before those of these
abbrev pub head_text : (name : List ℕ) → (front : List Port) → List Signal → List ℕ
head_text name front signals =
    codes "module " ++ verilog_name name ++ codes "(" ++ ports_text (front ++ ports_of signals)
    ++ codes ");\n" ++ flat_map wire_line (wires_of signals)

-- the wires that a controller has beside its signals
abbrev pub added_wires : List PortedCell → Netlist → (forced : List ℕ) → List (List ℕ)
added_wires cells n forced =
    free_nets n.signals forced ++ inverted_nets cells n.signals n.gates

-- the controller: its ports and wires, the assigns of forced signals, and the instances for each
-- gate
abbrev pub controller_text : PortedLibrary → Netlist → Option Forcing → List ℕ
controller_text ported n reset =
    let cells = ported_cells ported in
    head_text n.model (reset_ports reset) n.signals
    ++ flat_map wire_line (added_wires cells n (forced_by reset))
    ++ reset_lines n reset
    ++ flat_map placement_line
    (flat_map in_order (instances_from cells n.signals (forced_by reset) n.signals n.gates))
    ++ codes "endmodule\n"

-- the cells, and behind them the controller, which may have a reset input
unfoldable pub structure_text : PortedLibrary → Netlist → Option Forcing → List ℕ
structure_text ported n reset =
    flat_map (λ c. verilog_text (cell_netlist c)) (used_cells ported n)
    ++ controller_text ported n reset
