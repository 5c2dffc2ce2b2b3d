-- (law) Modules of cells are read back as their netlist.
use Rattle.std.specs.Prelude.{◌≤◌, length, None, All}
use Rattle.si_base.specs.Netlist.{Netlist}
use Rattle.si_base.specs.WellFormed.{IsNetlist}
use Rattle.si_genlib.specs.Ports.{PortedLibrary}
use Rattle.si_structure.specs.Laws.{IsPorted}
use Rattle.si_structure.specs.Refusals.{IsStructured}
use Rattle.si_structure.specs.StructureText.{PortedCell, cell_netlist, structure_text, used_cells}
use Rattle.si_structure.specs.declared.complements.Complements.TheVariants.{Refused}
use Rattle.si_verilog.specs.ModuleText.{verilog_text}
use Rattle.si_verilog.specs.Symbols.{symbols_of}
use Rattle.si_verilog_reader.specs.Limits.{max_symbols}
use Rattle.si_verilog_reader.specs.Meaning.{MeansNetlist}

-- the module of a cell has no more symbols than one that is read may have
abbrev pub IsSmall : PortedCell → Type 0
IsSmall c = length (symbols_of (verilog_text (cell_netlist c))) ≤ max_symbols

-- the text of a netlist by plain literals, of which each cell that is used is small, means the
-- netlist
abbrev pub StructuresAreReadBack : Type 0
StructuresAreReadBack = (ported : PortedLibrary) (n : Netlist) → IsPorted ported → IsNetlist n
    → IsStructured ported Refused n → All IsSmall (used_cells ported n)
    → MeansNetlist (structure_text ported n None) n
