-- (law) What laws say of the texts of graphs after insertions.
use Rattle.std.specs.Prelude.{◌≡◌, ℕ, ◌≤◌, ◌↔◌, List, length, Ok, Err}
use Rattle.si_audit.specs.Audit.{TakesAll}
use Rattle.si_base.specs.Codes.{CodedGraph}
use Rattle.si_base.specs.GivenGraph.{Sg}
use Rattle.si_base.specs.Limits.{max_arcs_read}
use Rattle.si_base.specs.NetlistText.{netlist_text}
use Rattle.si_circuit.specs.declared.style.Style.{Style}
use Rattle.si_insert.specs.Lineage.{History, given_history}
use Rattle.si_inserted.specs.Current.{current_sg, internal_netlist}
use Rattle.si_netlist_reader.specs.NetlistValue.{netlist_of}
use Rattle.si_readings.specs.Checks.{IsSound}
use Rattle.si_readings.specs.declared.library_format.LibraryFormat.{LibraryFormat}
use Rattle.si_refusals.specs.Refusal.{TextRefusal}
use Rattle.si_sg.specs.CanonicalText.{sg_text}
use Rattle.si_sg.specs.GivenGraph.{IsGivenBy}
use Rattle.si_stages.specs.Inserted.{insert, resolve}
use Rattle.si_stages.specs.Meaning.{mapping, synth}
use Rattle.si_stages.specs.Resolving.{resolution}

-- its current graph has no more arcs than are read
abbrev pub HasFewArcs : History → Type 0
HasFewArcs l = length l.current.coded.graph.edges ≤ max_arcs_read

-- the text of the graph after the insertions that resolve the conflicts of the graph that a text
-- gives. Where it has no more arcs than are read, it is read back as that graph, and what is
-- synthesised from it is what is synthesised from the given graph: the same gates of the same
-- signals, with those that were inserted as internal ones, and no insertion
pub record IsResolvedText (text resolved : List ℕ) : Type 0 where
  pub given : Sg
  pub is_given : IsGivenBy text given
  pub lineage : History
  pub resolves : resolution given.graph given.states (Ok lineage)
  pub text_is : resolved ≡ sg_text (current_sg given.model given.states lineage)
  pub back : HasFewArcs lineage
      → IsGivenBy resolved (current_sg given.model given.states lineage)
  pub synthesised : HasFewArcs lineage
      → (style : Style) (file resolved_file output : List ℕ) → synth style file text (Ok output)
      → synth style resolved_file resolved
      (Ok (netlist_text (internal_netlist (netlist_of output))))

-- such is what `resolve` comes to
abbrev pub ResolvedTextsServe : Type 0
ResolvedTextsServe = (file text resolved : List ℕ) → resolve file text (Ok resolved)
    → IsResolvedText text resolved

-- it is refused just as `synth` is
abbrev pub ResolvedAreSynthesised : Type 0
ResolvedAreSynthesised = (style : Style) (file text : List ℕ) (refusal : TextRefusal)
    → resolve file text (Err refusal) ↔ synth style file text (Err refusal)

-- the insertions of what is synthesised from a graph are taken, and make the resolved graph
abbrev pub SynthesisedAreInserted : Type 0
SynthesisedAreInserted = (style : Style) (file text output : List ℕ)
    → synth style file text (Ok output)
    → (resolved : List ℕ) × resolve file text (Ok resolved)
    × ((graph netlist : List ℕ) → insert graph text netlist output (Ok resolved))

-- the insertions of what a graph is mapped to are taken
abbrev pub MappedAreInserted : Type 0
MappedAreInserted = (format : LibraryFormat) (file text library cells output : List ℕ)
    → mapping format file text library cells (Ok output)
    → (inserted : List ℕ)
    × ((graph netlist : List ℕ) → insert graph text netlist output (Ok inserted))

-- the text of the graph that the one text gives after the insertions of the netlist that the other
-- spells. Where it has no more arcs than are read, it is read back as that graph
pub record IsInsertedText (text netlist inserted : List ℕ) : Type 0 where
  pub given : Sg
  pub is_given : IsGivenBy text given
  pub coded : CodedGraph
  pub sound : IsSound given.graph coded
  pub lineage : History
  pub takes : TakesAll given.states (given_history coded) (netlist_of netlist).inserts lineage
  pub text_is : inserted ≡ sg_text (current_sg given.model given.states lineage)
  pub back : HasFewArcs lineage
      → IsGivenBy inserted (current_sg given.model given.states lineage)

-- such is what `insert` comes to
abbrev pub InsertedTextsReadBack : Type 0
InsertedTextsReadBack = (file text netlist_file netlist inserted : List ℕ)
    → insert file text netlist_file netlist (Ok inserted) → IsInsertedText text netlist inserted
