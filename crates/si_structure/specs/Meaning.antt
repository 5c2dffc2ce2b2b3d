-- (text) What a text of modules means, and when that is a netlist over a library.
use Rattle.std.specs.Prelude.{◌≡◌, ◌≢◌, ◌⊎◌, ℕ, ◌<◌, Bool, false, List, [], ◌∷◌, ◌++◌, map, filter}
use Rattle.std.specs.Prelude.{flat_map, length, bytes_eq, slice_get, Option, Some, None}
use Rattle.std.specs.Prelude.{if◌then◌else◌, All, AllPairs, Contains}
use Rattle.si_base.specs.Bits.{bit}
use Rattle.si_base.specs.declared.graph.Signal.{Signal}
use Rattle.si_base.specs.Graph.{is_driven, IsNonInput}
use Rattle.si_base.specs.Netlist.{Gate, Netlist, gate_place, gate_value}
use Rattle.si_base.specs.NetlistText.{name_of}
use Rattle.si_genlib.specs.Ports.{PortedLibrary}
use Rattle.si_verilog.specs.Declared.{port_name, declared_names}
use Rattle.si_verilog.specs.Symbols.{symbols_of}
use Rattle.si_verilog.specs.Grammar.{Assign, Module, tree_value}
use Rattle.si_verilog.specs.Meaning.{IsOfNetlist}
use Rattle.si_verilog.specs.ModuleText.{ports_of, wires_of}
use Rattle.si_resettable.specs.Forcing.{Forcing}
use Rattle.si_structure.specs.Parts.{Connection, Placement, Part, SpellParts}
use Rattle.si_structure.specs.StructureText.{PortedCell, ported_cells, cell_netlist, used_cells}
use Rattle.si_structure.specs.StructureText.{instance_name, inverter_name, inverted_net}
use Rattle.si_structure.specs.StructureText.{GateInstances, in_order, inverted_pins, added_wires}
use Rattle.si_structure.specs.StructureText.{reset_ports, forced_by, free_net, driven_net}

-- ---- instances

-- a port has the value of the net that is connected to it
abbrev pub port_value : (List ℕ → Bool) → List Connection → List ℕ → Bool
port_value nets [] port = false
port_value nets (c ∷ cs) port =
    if bytes_eq c.port port then nets c.net else port_value nets cs port

-- the module of the name: there is one room for them
abbrev pub part_named : List Part → List ℕ → Option Part
part_named [] name = None
part_named (p ∷ ps) name = if bytes_eq p.body.name name then Some p else part_named ps name

-- a module without instances
abbrev pub alone : Module → Part
alone m = record { body = m; placements = [] }

-- the instance is one of a module with one assign, and each port of that is connected once
pub record IsInstanceOf (parts : List Part) (p : Placement) (a : Assign) : Type 0 where
  pub cell : Module
  pub found : part_named parts p.cell ≡ Some (alone cell)
  pub assigned : cell.assigns ≡ a ∷ []
  pub ports : map (λ c. c.port) p.connections ≡ map port_name cell.ports

-- the net has the value that the instance drives it to, where the other nets have theirs
pub record IsSettled (parts : List Part) (nets : List ℕ → Bool) (p : Placement) : Type 0 where
  pub driven : (a : Assign) (net : List ℕ) → IsInstanceOf parts p a
      → Contains p.connections (record { port = a.name; net = net })
      → nets net ≡ tree_value (port_value nets p.connections) a.tree

-- the net of each signal has the value of the signal
abbrev pub HaveValues : List Signal → (values : ℕ) → (nets : List ℕ → Bool) → Type 0
HaveValues signals values nets =
    (x : ℕ) → x < length signals → nets (name_of signals x) ≡ bit values x

-- the inverter at a pin of the gate of a signal of this name: its output drives the net of that
-- pin, and its other port reads a signal
pub record IsInverterPlaced (n : Netlist) (parts : List Part) (name pin : List ℕ) (p : Placement)
    : Type 0 where
  pub named : p.name ≡ inverter_name name pin
  pub assign : Assign
  pub instance : IsInstanceOf parts p assign
  pub port : List ℕ
  pub source : ℕ
  pub is_signal : source < length n.signals
  pub connections : p.connections ≡ record { port = port; net = name_of n.signals source }
      ∷ record { port = assign.name; net = inverted_net name pin } ∷ []

-- one at each of these pins, in order
abbrev pub AreInvertersPlaced : Netlist → List Part → (name : List ℕ) → (pins : List (List ℕ))
    → List Placement → Type 0
AreInvertersPlaced n parts name [] [] = Unit {0}
AreInvertersPlaced n parts name (pin ∷ pins) (p ∷ ps) =
    IsInverterPlaced n parts name pin p × AreInvertersPlaced n parts name pins ps
AreInvertersPlaced _ _ _ _ _ = ⊥

-- a port of the gate of a signal of this name is connected to a signal, to the net of an inverter
-- that is at this very pin, or to the net that the gate drives
abbrev pub IsNet : List Signal → (name driven : List ℕ) → (pins : List (List ℕ)) → Connection
    → Type 0
IsNet signals name driven pins c = Contains (map (λ x. x.name) signals) c.net
    ⊎ (Contains pins c.port × (c.net ≡ inverted_net name c.port)) ⊎ (c.net ≡ driven)

-- the instances for the gate of signal z, at its place among these
pub record IsGatePlaced (ported : PortedLibrary) (n : Netlist) (forced : List ℕ)
    (parts : List Part) (instances : List GateInstances) (z : ℕ) : Type 0 where
  pub gate : Gate
  pub has : slice_get n.gates (gate_place n.signals z) ≡ Some gate
  pub placed : GateInstances
  pub there : slice_get instances (gate_place n.signals z) ≡ Some placed
  -- an inverter at each pin with a complemented literal, for no other gate and no other pin
  pub inverters : AreInvertersPlaced n parts (name_of n.signals z)
      (inverted_pins (ported_cells ported) gate) placed.inverters
  -- the instance of the gate, whose output drives the signal, or its free net if it is forced
  pub named : placed.gate.name ≡ instance_name (name_of n.signals z)
  pub assign : Assign
  pub instance : IsInstanceOf parts placed.gate assign
  pub drives : Contains placed.gate.connections
      (record { port = assign.name; net = driven_net n.signals forced (name_of n.signals z) })
  pub nets : All (IsNet n.signals (name_of n.signals z)
      (driven_net n.signals forced (name_of n.signals z))
      (inverted_pins (ported_cells ported) gate)) placed.gate.connections
  -- for all values of the nets by which the inverters are settled, and those of the signals are the
  -- values of the signals, the output has the value of the gate
  pub value : (values : ℕ) (nets : List ℕ → Bool) → HaveValues n.signals values nets
      → All (IsSettled parts nets) placed.inverters
      → tree_value (port_value nets placed.gate.connections) assign.tree ≡ gate_value n z values

-- ---- assigns of forced signals

-- while the reset input is 1, signal z has its start value; while it is 0, the value of the net
-- that its gate drives
pub record IsForcedAssign (n : Netlist) (reset : List ℕ) (z : ℕ) (a : Assign) : Type 0 where
  pub named : a.name ≡ name_of n.signals z
  pub value : (nets : List ℕ → Bool) → tree_value nets a.tree
      ≡ (if nets reset then bit n.start z else nets (free_net (name_of n.signals z)))

-- one for each of these signals, in order
abbrev pub AreForcedAssigns : Netlist → (reset forced : List ℕ) → List Assign → Type 0
AreForcedAssigns n reset [] [] = Unit {0}
AreForcedAssigns n reset (z ∷ forced) (a ∷ assigns) =
    IsForcedAssign n reset z a × AreForcedAssigns n reset forced assigns
AreForcedAssigns _ _ _ _ = ⊥

-- those of a controller: none without a reset input
abbrev pub AreResetAssigns : Netlist → Option Forcing → List Assign → Type 0
AreResetAssigns n None assigns = assigns ≡ []
AreResetAssigns n (Some f) assigns = AreForcedAssigns n f.name f.forced assigns

-- ---- the text

-- these modules are those of the cells: each has its pins as ports, and drives its output with its
-- sum over them
abbrev pub AreOfCells : List PortedCell → List Module → Type 0
AreOfCells [] [] = Unit {0}
AreOfCells (c ∷ cs) (m ∷ ms) = IsOfNetlist (cell_netlist c) m × AreOfCells cs ms
AreOfCells _ _ = ⊥

-- the controller's module has the name of the model; the reset input, if there is one, and the
-- inputs and outputs as ports; the other signals, the free nets of forced signals and the nets of
-- inverters as wires, no two of one name; the assigns of forced signals; and for each non-input, in
-- signal order, the instances that are its gate
pub record IsController (ported : PortedLibrary) (n : Netlist) (reset : Option Forcing)
    (parts : List Part) (p : Part) : Type 0 where
  pub named : p.body.name ≡ n.model
  pub ports : p.body.ports ≡ reset_ports reset ++ ports_of n.signals
  pub wires : p.body.wires
      ≡ wires_of n.signals ++ added_wires (ported_cells ported) n (forced_by reset)
  pub distinct : AllPairs (λ x y. x ≢ y) (declared_names p.body)
  pub assigns : AreResetAssigns n reset p.body.assigns
  pub instances : List GateInstances
  pub placed : p.placements ≡ flat_map in_order instances
  pub count : length instances ≡ length (filter (λ x. is_driven x.kind) n.signals)
  pub gates : (z : ℕ) → IsNonInput n.signals z
      → IsGatePlaced ported n (forced_by reset) parts instances z

-- the modules are those of the cells that are used, in the order of the library, and behind them
-- that of the controller; no two have the same name
pub record AreOfNetlist (ported : PortedLibrary) (n : Netlist) (reset : Option Forcing)
    (parts : List Part) : Type 0 where
  pub cells : List Module
  pub controller : Part
  pub whole : parts ≡ map alone cells ++ controller ∷ []
  pub of_cells : AreOfCells (used_cells ported n) cells
  pub of_netlist : IsController ported n reset parts controller
  pub distinct : AllPairs (λ p q. p.body.name ≢ q.body.name) parts

-- the text is that of modules, and these are of the netlist over the library, with the reset input
abbrev pub MeansStructure : List ℕ → PortedLibrary → Netlist → Option Forcing → Type 0
MeansStructure text ported n reset =
    (parts : List Part) × SpellParts (symbols_of text) parts × AreOfNetlist ported n reset parts
