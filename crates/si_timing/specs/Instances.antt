-- (field) The instances that are the gates of a netlist, their ports, and the names of these.
use Rattle.std.specs.Prelude.{ℕ, ◌<◌, List, [], length, slice_index_or, IsTrue, true}
use Rattle.si_base.specs.declared.graph.Signal.{Signal}
use Rattle.si_base.specs.declared.ids.Literal.{Literal}
use Rattle.si_base.specs.Graph.{name_of}
use Rattle.si_base.specs.Netlist.{Gate, Netlist}
use Rattle.si_cell.specs.Library.{Instance, Library, cell_at}
use Rattle.si_genlib.specs.Ports.{PortedLibrary, Ports}
use Rattle.si_structure.specs.Refusals.{HasGate, IsInstanceGate}
use Rattle.si_structure.specs.StructureText.{feedback, instance_name, reads_own}

-- ---- names of the ports of cells

abbrev pub no_ports : Ports
no_ports = record { pins = []; output = [] }

-- those of the cell at a place of the library
abbrev pub ports_at : PortedLibrary → ℕ → Ports
ports_at library k = slice_index_or library.ports k no_ports

-- ---- ports of instances

-- a port of the instance that is the gate of a signal: the pin at a place, from 0; the one by which
-- its cell reads its own output; or the output
pub data Port : Type 0 where
  PinOf : (sig pin : ℕ) → Port
  FeedbackOf : (sig : ℕ) → Port
  OutputOf : (sig : ℕ) → Port

-- the signal whose gate has the port
abbrev pub gate_of : Port → ℕ
gate_of (PinOf z k) = z
gate_of (FeedbackOf z) = z
gate_of (OutputOf z) = z

-- its name, where the cell's ports have these names
abbrev pub port_name : Ports → Port → List ℕ
port_name ports (PinOf z k) = slice_index_or ports.pins k []
port_name ports (FeedbackOf z) = feedback ports
port_name ports (OutputOf z) = ports.output

abbrev pub no_literal : Literal
no_literal = record { sig = 0; plain = true }

-- the signal at the port of the instance; where the literal of a pin is complemented, an inverter
-- stands between
abbrev pub signal_at : Instance → Port → ℕ
signal_at i (PinOf z k) = (slice_index_or i.literals k no_literal).sig
signal_at i (FeedbackOf z) = z
signal_at i (OutputOf z) = z

-- the port is an input of the instance
abbrev pub IsInputOf : Library → Instance → Port → Type 0
IsInputOf library i (PinOf z k) = k < length i.literals
IsInputOf library i (FeedbackOf z) = IsTrue (reads_own (cell_at library i.cell))
IsInputOf library i (OutputOf z) = ⊥

-- the gate of signal z is that instance of a cell
pub record HasInstance (library : Library) (n : Netlist) (z : ℕ) (i : Instance) : Type 0 where
  pub gate : Gate
  pub has : HasGate n z gate
  pub is : IsInstanceGate library z gate i

-- the instance is the gate that the port is of, and has it as an input
pub record IsInput (library : Library) (n : Netlist) (p : Port) (i : Instance) : Type 0 where
  pub instance : HasInstance library n (gate_of p) i
  pub input : IsInputOf library i p

-- ---- arcs inside instances, by names

-- from a port of an instance to another
pub record NamedArc : Type 0 where
  pub instance : List ℕ
  pub from : List ℕ
  pub to : List ℕ

-- from the port of that name to the output of the instance that is the gate of signal z
abbrev pub arc_from : List Signal → ℕ → Ports → List ℕ → NamedArc
arc_from signals z ports name = record {
  instance = instance_name (name_of signals z);
  from = name;
  to = ports.output;
}

-- from an input of the instance to its output
abbrev pub named : PortedLibrary → Netlist → Port → Instance → NamedArc
named library n p i = arc_from n.signals (gate_of p) (ports_at library i.cell)
    (port_name (ports_at library i.cell) p)
