-- (law) What laws say of the commands over texts.
use Rattle.std.specs.Prelude.{◌≡◌, ℕ, List, Ok, None}
use Rattle.si_base.specs.Codes.{CodedGraph}
use Rattle.si_base.specs.GivenGraph.{Sg}
use Rattle.si_base.specs.Proper.{HasNoConflict}
use Rattle.si_circuit.specs.Cells.{AllFit}
use Rattle.si_circuit.specs.declared.style.Style.{Style}
use Rattle.si_sg.specs.GivenGraph.{IsGivenBy}
use Rattle.si_readings.specs.Checks.{IsSound}
use Rattle.si_stages.specs.Meaning.{synth, mapping}
use Rattle.si_readings.specs.Readings.{fault_in, library_from}
use Rattle.si_readings.specs.declared.library_format.LibraryFormat.{LibraryFormat}

-- a proper graph without conflicts is synthesised
abbrev pub FreeGraphsAreSynthesised : Type 0
FreeGraphsAreSynthesised = (style : Style) (file text : List ℕ) (given : Sg) (coded : CodedGraph)
    → IsGivenBy text given → IsSound given.graph coded → HasNoConflict coded
    → (output : List ℕ) × synth style file text (Ok output)

-- a proper graph without conflicts is mapped, where each of its signals that the circuit drives
-- fits a cell
abbrev pub FreeGraphsAreMapped : Type 0
FreeGraphsAreMapped = (format : LibraryFormat) (file text library cells : List ℕ) (given : Sg)
    (coded : CodedGraph) → IsGivenBy text given → fault_in format cells ≡ None
    → IsSound given.graph coded → HasNoConflict coded → AllFit coded (library_from format cells)
    → (output : List ℕ) × mapping format file text library cells (Ok output)
