-- (text) The names that other tools give to the ports of cells: to the pins, and to the output.
use Rattle.std.specs.Prelude.{◌≡◌, ◌≢◌, ℕ, ◌<◌, Bool, false, List, [], ◌∷◌, ◌++◌, length, map}
use Rattle.std.specs.Prelude.{slice_index_or, IsTrue, All, AllPairs}
use Rattle.std.specs.List.{list_all}
use Rattle.si_base.specs.Words.{is_name_byte}
use Rattle.si_cell.specs.Library.{Cell, Library, own}

-- the names of a cell's pins, in the order of the pins, and of its output
pub record Ports : Type 0 where
  pub pins : List (List ℕ)
  pub output : List ℕ

-- the output stands behind the pins
abbrev pub port_names : Ports → List (List ℕ)
port_names ports = ports.pins ++ ports.output ∷ []

-- a port name has bytes, and each is one that a signal name may have, in whatever order
abbrev pub is_port_name : List ℕ → Bool
is_port_name [] = false
is_port_name (b ∷ bs) = list_all is_name_byte (b ∷ bs)

abbrev pub IsPortName : List ℕ → Type 0
IsPortName name = IsTrue (is_port_name name)

-- they name the cell's ports: each pin has a name, and no two names are the same
pub record ArePortsOf (cell : Cell) (ports : Ports) : Type 0 where
  pub count : length ports.pins ≡ length cell.pins
  pub names : All IsPortName (port_names ports)
  pub distinct : AllPairs (λ x y. x ≢ y) (port_names ports)

-- they name those of each cell, in the order of the cells
pub record ArePorts (cells : List Cell) (ports : List Ports) : Type 0 where
  pub count : length ports ≡ length cells
  pub each : (k : ℕ) (cell : Cell) (names : Ports) → k < length cells
      → ArePortsOf (slice_index_or cells k cell) (slice_index_or ports k names)

-- a library with the names of the ports of its cells
pub record PortedLibrary : Type 0 where
  pub library : Library
  pub ports : List Ports

-- ---- the tool's own libraries

-- their ports have the names of the cell's pins, and `q`
abbrev pub own_ports : Cell → Ports
own_ports cell = record { pins = cell.pins; output = own }

abbrev pub with_own_ports : Library → PortedLibrary
with_own_ports library = record { library = library; ports = map own_ports library.cells }
