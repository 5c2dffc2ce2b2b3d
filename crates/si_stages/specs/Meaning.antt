-- (command) What `synth`, `map` and `audit` mean over the texts of their files.
use Rattle.std.specs.Prelude.{ℕ, List}
use Rattle.si_base.specs.GivenGraph.{Sg}
use Rattle.si_base.specs.Graph.{StateGraph}
use Rattle.si_base.specs.Netlist.{Netlist}
use Rattle.si_cell.specs.Library.{Library}
use Rattle.si_circuit.specs.declared.style.Style.{Style}
use Rattle.si_refusals.specs.Refusal.{TextRefusal}
use Rattle.si_refusals.specs.Stages.{Stage, ◌>>=◌}
use Rattle.si_stages.specs.Audited.{certification}
use Rattle.si_readings.specs.Checks.{proper, match_lists}
use Rattle.si_stages.specs.Mapping.{cells_text}
use Rattle.si_readings.specs.Readings.{audit_readings, graph_in, mapping_readings}
use Rattle.si_stages.specs.Resolving.{resolution}
use Rattle.si_stages.specs.Synthesis.{synthesis}
use Rattle.si_readings.specs.declared.library_format.LibraryFormat.{LibraryFormat}

abbrev pub synth : Style → (file text : List ℕ) → Stage TextRefusal (List ℕ)
synth style file text = do
  given ← graph_in file text
  lineage ← resolution given.graph given.states
  synthesis style given lineage

-- the netlist of a graph that was read, from the cells of a library
abbrev pub mapped_text : Library → Sg → Stage TextRefusal (List ℕ)
mapped_text library given = do
  lineage ← resolution given.graph given.states
  cells_text library given lineage

-- each file with its text, and the library read in either format
abbrev pub mapping : LibraryFormat → (graph graph_text library library_text : List ℕ)
    → Stage TextRefusal (List ℕ)
mapping format graph graph_text library library_text = do
  readings ← mapping_readings format graph graph_text library library_text
  mapped_text readings.library readings.given

-- the audit of a netlist for a graph whose states have these names
abbrev pub audited_on : (netlist : List ℕ) → StateGraph → (states : List (List ℕ)) → Netlist
    → Stage TextRefusal (List ℕ)
audited_on netlist graph states n = do
  coded ← proper graph states
  _ ← match_lists netlist coded n
  certification states coded n

abbrev pub audit : (graph graph_text netlist netlist_text : List ℕ) → Stage TextRefusal (List ℕ)
audit graph graph_text netlist netlist_text = do
  readings ← audit_readings graph graph_text netlist netlist_text
  audited_on netlist readings.given.graph readings.given.states readings.netlist
