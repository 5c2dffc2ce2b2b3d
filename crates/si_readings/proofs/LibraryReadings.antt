-- What a text without fault spells in either format is a library.
use Rattle.std.proofs.Common.{◌≡◌, ℕ, List, None, sym, subst}
use Rattle.si_cell.specs.Library.{Library, IsLibrary, with_pins}
use Rattle.si_cell.specs.declared.pins.Pins.{Pins}
use Rattle.si_cell.proofs.LawLemmas.{text_is_library}
use Rattle.si_genlib.proofs.LibraryLemmas.{is_library as gates_are_library}
use Rattle.si_readings.specs.Readings.{fault_in, library_from}
use Rattle.si_readings.specs.declared.library_format.LibraryFormat.{LibraryFormat}
use Rattle.si_readings.specs.declared.library_format.LibraryFormat.TheVariants.{Own, Genlib}

-- whatever literals its pins may have, the cells are those of a library
still_library : (pins : Pins) (library : Library) → IsLibrary library → IsLibrary (with_pins pins library)
still_library pins library is = record { name = is.name; cells = is.cells }

pub is_library : (format : LibraryFormat) (text : List ℕ) (library : Library) → fault_in format text ≡ None
    → library ≡ library_from format text → IsLibrary library
is_library (Own pins) text library none is = subst IsLibrary (sym is) (still_library pins _ (text_is_library text none))
is_library (Genlib pins) text library none is = subst IsLibrary (sym is) (still_library pins _ (gates_are_library text))
