-- What a text without fault spells in either format is a library, with names of the ports of its cells.
use Rattle.std.proofs.Common.{◌≡◌, ℕ, List, None, subst, sym}
use Rattle.si_cell.specs.Library.{IsLibrary, Library}
use Rattle.si_cell.specs.LibraryText.{library_of}
use Rattle.si_cell.proofs.LawLemmas.{text_is_library}
use Rattle.si_genlib.specs.GenlibText as gates
use Rattle.si_genlib.specs.Ports.{ArePorts}
use Rattle.si_genlib.proofs.LibraryLemmas.{is_library, ports_are, same_library}
use Rattle.si_genlib.proofs.PortLemmas.{own_are}
use Rattle.si_readings.specs.Readings.{fault_in}
use Rattle.si_readings.specs.declared.library_format.LibraryFormat.{LibraryFormat}
use Rattle.si_readings.specs.declared.library_format.LibraryFormat.TheVariants.{Own, Genlib}
use Rattle.si_exports.specs.Ported.{ported_from}

pub cells_are_library : (format : LibraryFormat) (text : List ℕ) → fault_in format text ≡ None
    → IsLibrary (ported_from format text).library
cells_are_library (Own pins) text none = text_is_library text none
cells_are_library (Genlib pins) text none = subst IsLibrary (sym (same_library text)) (is_library text)

pub ports_are_named : (format : LibraryFormat) (text : List ℕ) → fault_in format text ≡ None
    → ArePorts (ported_from format text).library.cells (ported_from format text).ports
ports_are_named (Own pins) text none = own_are (library_of text) (text_is_library text none)
ports_are_named (Genlib pins) text none =
    subst (λ (library : Library). ArePorts library.cells (gates.ported_of text).ports) (sym (same_library text))
    (ports_are text)
