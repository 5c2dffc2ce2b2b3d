-- What readers hold, as the definitions see it.
use Rattle.si_verilog.specs.Symbols.{Symbol, Name, Word, Mark}
use Rattle.si_equations_reader.specs.Steps.{tree_of}
use Rattle.si_verilog_reader.specs.Placed.{Placed}
use Rattle.si_verilog_reader.specs.Parts.{Named}
use Rattle.si_verilog_reader.specs.Modules.{Ports, all_ports, Assign, Cell, Connection}
use Rattle.si_verilog_reader.specs.declared.source.Symbol.{Symbol as SymbolHeld}
use Rattle.si_verilog_reader.specs.declared.source.Symbol.TheVariants as held
use Rattle.si_verilog_reader.specs.declared.source.Placed.{Placed as PlacedHeld}
use Rattle.si_verilog_reader.specs.declared.parts.Named.{Named as NamedHeld}
use Rattle.si_verilog_reader.specs.declared.heads.Ports.{Ports as PortsHeld}
use Rattle.si_verilog_reader.specs.declared.assigns.Assign.{Assign as AssignHeld}
use Rattle.si_verilog_reader.specs.declared.cells.Cell.{Cell as CellHeld}
use Rattle.si_verilog_reader.specs.declared.connections.Connection.{Connection as ConnectionHeld}

abbrev pub symbol_now : SymbolHeld → Symbol
symbol_now (held.Name name) = Name name.now
symbol_now (held.Word word) = Word word.now
symbol_now (held.Mark byte) = Mark byte

abbrev pub placed_now : PlacedHeld → Placed
placed_now p = record { line = p.line; symbol = symbol_now p.symbol }

abbrev pub named_now : NamedHeld → Named
named_now n = record { line = n.line; name = n.name.now }

abbrev pub ports_now : PortsHeld → Ports
ports_now p = record { inputs = p.inputs; outputs = p.outputs }

abbrev pub assign_now : AssignHeld → Assign
assign_now a = record { line = a.line; name = a.name.now; tree = tree_of a.steps.items }

abbrev pub cell_now : CellHeld → Cell
cell_now c = record {
  name = c.name.now;
  ports = all_ports (ports_now c.ports);
  output = c.output.now;
  tree = tree_of c.steps.items;
}

abbrev pub connection_now : ConnectionHeld → Connection
connection_now c = record { port = c.port.now; net = c.net.now }
