-- (command) What `resolve` and `map` mean over the texts of their files where they are asked for
-- insertions that are suggested: the graph after these as a text, and its netlist of cells.
use Rattle.std.specs.Prelude.{◌≡◌, ℕ, List, Ok, Err}
use Rattle.si_base.specs.Codes.{CodedGraph}
use Rattle.si_base.specs.GivenGraph.{Sg}
use Rattle.si_cell.specs.Library.{Library}
use Rattle.si_cell.specs.declared.pins.Pins.TheVariants.{Plain}
use Rattle.si_circuit.specs.Cells.{mapped_netlist}
use Rattle.si_circuit.specs.Wires.{IsOfCellsAndWires}
use Rattle.si_circuit.specs.declared.style.Style.TheVariants.{Complex}
use Rattle.si_insert.specs.Lineage.{History}
use Rattle.si_readings.specs.Checks.{proper}
use Rattle.si_readings.specs.Readings.{graph_in, mapping_readings}
use Rattle.si_readings.specs.declared.library_format.LibraryFormat.{LibraryFormat}
use Rattle.si_refusals.specs.Refusal.{TextRefusal}
use Rattle.si_refusals.specs.Stages.{Stage, ◌>>=◌}
use Rattle.si_stages.specs.Inserted.{current_text}
use Rattle.si_stages.specs.Mapping.{EndsInCells, shows_unfit}
use Rattle.si_stages.specs.Written.{IsWritten}
use Rattle.si_suggestion.specs.Suggestion.{IsSuggestion, TellsWhyNot}

-- the lineage of a netlist of complex gates that is suggested for the graph
pub record IsSuggestedLineage (model : List ℕ) (states : List (List ℕ)) (coded : CodedGraph)
    (l : History) : Type 0 where
  pub output : List ℕ
  pub suggestion : IsSuggestion Complex model states coded output
  pub lineage_is : suggestion.lineage ≡ l

-- such a lineage: else why there is none
abbrev pub suggested_lineage : (model : List ℕ) (states : List (List ℕ)) → CodedGraph
    → Stage TextRefusal History
suggested_lineage model states coded (Ok l) = IsSuggestedLineage model states coded l
suggested_lineage model states coded (Err refusal) = TellsWhyNot states coded refusal

-- ---- the graph after its insertions

abbrev pub suggested_graph : (model : List ℕ) (states : List (List ℕ)) → CodedGraph
    → Stage TextRefusal (List ℕ)
suggested_graph model states coded = do
  lineage ← suggested_lineage model states coded
  current_text model states lineage

abbrev pub resolve_suggested : (file text : List ℕ) → Stage TextRefusal (List ℕ)
resolve_suggested file text = do
  given ← graph_in file text
  coded ← proper given.graph given.states
  suggested_graph given.model given.states coded

-- ---- the netlist of cells over it

-- the output is the text of a netlist that is written for the given graph, over the lineage that
-- mapping makes of l: its gates are, for the current graph, the first fitting instances of the
-- library, which read signals as they are where the library's pins are plain; and its insertions
-- are those of the trace
pub record IsSuggestedMapping (library : Library) (given : Sg) (l : History) (output : List ℕ)
    : Type 0 where
  pub lineage : History
  pub maps : EndsInCells library l lineage
  pub written : IsWritten given lineage output
  pub gates_are : written.netlist ≡ mapped_netlist library given.model given.states lineage
  pub wired : library.pins ≡ Plain → IsOfCellsAndWires library written.netlist

-- the netlist of cells, where mapping comes to one: else the first signal that fits none
abbrev pub suggested_cells : Library → Sg → History → Stage TextRefusal (List ℕ)
suggested_cells library given l (Ok output) = IsSuggestedMapping library given l output
suggested_cells library given l (Err refusal) = shows_unfit library given.states l (Err refusal)

-- of a graph that was read
abbrev pub suggested_mapping : Library → Sg → Stage TextRefusal (List ℕ)
suggested_mapping library given = do
  coded ← proper given.graph given.states
  lineage ← suggested_lineage given.model given.states coded
  suggested_cells library given lineage

-- each file with its text, and the library read in either format
abbrev pub map_suggested : LibraryFormat → (graph graph_text library library_text : List ℕ)
    → Stage TextRefusal (List ℕ)
map_suggested format graph graph_text library library_text = do
  readings ← mapping_readings format graph graph_text library library_text
  suggested_mapping readings.library readings.given
