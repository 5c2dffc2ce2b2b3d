-- (command) Libraries with the names of the ports of their cells, as texts give them.
use Rattle.std.specs.Prelude.{ℕ, List}
use Rattle.si_cell.specs.LibraryText.{library_of}
use Rattle.si_genlib.specs.GenlibText.{ported_of}
use Rattle.si_genlib.specs.Ports.{PortedLibrary, with_own_ports}
use Rattle.si_refusals.specs.Refusal.{TextRefusal}
use Rattle.si_refusals.specs.Stages.{Stage}
use Rattle.si_readings.specs.Readings.{fault_in, spelled_value}
use Rattle.si_readings.specs.declared.library_format.LibraryFormat.{LibraryFormat}
use Rattle.si_readings.specs.declared.library_format.LibraryFormat.TheVariants.{Own, Genlib}

-- the library that a text spells in either format, whatever literals its pins may have: the tool's
-- own cells call their ports by their pins, those of genlib as the text does
abbrev pub ported_from : LibraryFormat → (text : List ℕ) → PortedLibrary
ported_from (Own pins) text = with_own_ports (library_of text)
ported_from (Genlib pins) text = ported_of text

-- or the text's first fault
abbrev pub ported_in : LibraryFormat → (file text : List ℕ) → Stage TextRefusal PortedLibrary
ported_in format file text = spelled_value file (fault_in format text) (ported_from format text)
