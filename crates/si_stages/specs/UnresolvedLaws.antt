-- (law) What commands come to where input events join a conflict of the graph.
use Rattle.std.specs.Prelude.{ℕ, List, Ok, Err}
use Rattle.si_base.specs.Codes.{CodedGraph}
use Rattle.si_base.specs.GivenGraph.{Sg}
use Rattle.si_cell.specs.Library.{Library}
use Rattle.si_circuit.specs.declared.style.Style.{Style}
use Rattle.si_insert.specs.Lineage.{History}
use Rattle.si_readings.specs.Checks.{IsSound}
use Rattle.si_readings.specs.Readings.{library_in}
use Rattle.si_readings.specs.declared.library_format.LibraryFormat.{LibraryFormat}
use Rattle.si_sg.specs.GivenGraph.{IsGivenBy}
use Rattle.si_stages.specs.Meaning.{synth, mapping}
use Rattle.si_stages.specs.Resolving.{EndsInConflict, conflict_refusal}
use Rattle.si_walks.specs.Joined.{IsJoinedConflict}

-- a proper graph with such a conflict isn't synthesised in any style: what is left is told
abbrev pub SynthEndsUnresolved : Type 0
SynthEndsUnresolved = (style : Style) (file text : List ℕ) (given : Sg) (coded : CodedGraph)
    (pair : ℕ × ℕ)
    → IsGivenBy text given → IsSound given.graph coded → IsJoinedConflict coded pair
    → (l : History) × (last : ℕ × ℕ) × EndsInConflict coded l last
    × synth style file text (Err (conflict_refusal given.states l last))

-- nor is it mapped to any library, in any format
abbrev pub MapEndsUnresolved : Type 0
MapEndsUnresolved = (format : LibraryFormat) (file text library cells : List ℕ) (given : Sg)
    (known : Library) (coded : CodedGraph) (pair : ℕ × ℕ)
    → IsGivenBy text given → library_in format library cells (Ok known)
    → IsSound given.graph coded → IsJoinedConflict coded pair
    → (l : History) × (last : ℕ × ℕ) × EndsInConflict coded l last
    × mapping format file text library cells (Err (conflict_refusal given.states l last))
