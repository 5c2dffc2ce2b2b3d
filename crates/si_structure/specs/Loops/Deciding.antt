-- What gates of netlists have, so that they can be compared with instances; and what is found in
-- libraries.
use Rattle.std.specs.Prelude.{ℕ, ◌<◌, ◌≤◌, List, [], All, IsTrue, length, slice_index_or}
use Rattle.std.specs.Bool.{IsFalse}
use Rattle.si_base.specs.declared.ids.Literal.{Literal}
use Rattle.si_base.specs.Limits.{code_width}
use Rattle.si_base.specs.Netlist.{Gate, SumGate, Gc, Cell as CellGate}
use Rattle.si_cell.specs.Library.{Cell, cell_at, no_cell}
use Rattle.si_cell.specs.Limits.{max_pins}
use Rattle.si_genlib.specs.Ports.{Ports, PortedLibrary}
use Rattle.si_structure.specs.StructureText.{PortedCell, is_inverter}

-- few literals, of signals that have bits in a code
pub record AreSmall (literals : List Literal) : Type 0 where
  pub few : length literals ≤ max_pins
  pub signals : All (λ l. l.sig < code_width) literals

-- where it has a cell, its literals are such
abbrev pub FitsCells : Gate → Type 0
FitsCells (SumGate sum) = Unit {0}
FitsCells (Gc set reset) = Unit {0}
FitsCells (CellGate name literals sum) = AreSmall literals

-- ---- inverters

abbrev pub HasNoInverter : List Cell → Type 0
HasNoInverter cells = All (λ c. IsFalse (is_inverter c)) cells

-- the cell at that place is an inverter, and none before it is
pub record IsFirstInverter (cells : List Cell) (k : ℕ) : Type 0 where
  pub within : k < length cells
  pub is : IsTrue (is_inverter (slice_index_or cells k no_cell))
  pub others : (j : ℕ) (d : Cell) → j < k → IsFalse (is_inverter (slice_index_or cells j d))

-- ---- cells at places

abbrev pub no_ports : Ports
no_ports = record { pins = []; output = [] }

-- the cell at a place of the library, with the names of its ports
abbrev pub ported_at : PortedLibrary → ℕ → PortedCell
ported_at ported k = record {
  cell = cell_at ported.library k;
  ports = slice_index_or ported.ports k no_ports;
}
