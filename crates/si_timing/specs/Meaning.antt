-- (text) What the lines for a timing tool mean: with their arcs disabled it meets no loop.
use Rattle.std.specs.Prelude.{◌≡◌, ℕ, List, Contains, flat_map}
use Rattle.si_base.specs.Netlist.{Netlist}
use Rattle.si_base.specs.WellFormed.{IsNetlist}
use Rattle.si_cell.specs.Library.{IsLibrary}
use Rattle.si_genlib.specs.Ports.{ArePorts, PortedLibrary}
use Rattle.si_timing.specs.Arcs.{ClosesLoop, HasNoLoop}
use Rattle.si_timing.specs.Instances.{NamedArc}
use Rattle.si_timing.specs.Refusals.{IsOfCells}
use Rattle.si_timing.specs.TimingText.{disabled_line}

-- a library with names of ports, and a netlist of its cells
pub record IsOver (library : PortedLibrary) (n : Netlist) : Type 0 where
  pub cells : IsLibrary library.library
  pub ports : ArePorts library.library.cells library.ports
  pub netlist : IsNetlist n
  pub of_cells : IsOfCells library.library n

-- the text has a line for each of some arcs; with these disabled no loop is left, and each of them
-- closes one with what is left
pub record LeavesNoLoop (library : PortedLibrary) (n : Netlist) (text : List ℕ) : Type 0 where
  pub arcs : List NamedArc
  pub spelled : text ≡ flat_map disabled_line arcs
  pub no_loop : HasNoLoop library n arcs
  pub needed : (a : NamedArc) → Contains arcs a → ClosesLoop library n arcs a
