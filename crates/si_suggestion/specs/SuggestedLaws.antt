-- (law) What laws say of the text of a graph after insertions that are suggested.
use Rattle.std.specs.Prelude.{◌≡◌, ℕ, ◌↔◌, List, Ok, Err}
use Rattle.si_base.specs.Codes.{CodedGraph}
use Rattle.si_base.specs.GivenGraph.{Sg}
use Rattle.si_base.specs.NetlistText.{netlist_text}
use Rattle.si_circuit.specs.Circuits.{circuit_of}
use Rattle.si_circuit.specs.declared.style.Style.{Style}
use Rattle.si_circuit.specs.declared.style.Style.TheVariants.{Complex}
use Rattle.si_inserted.specs.Current.{current_sg, internal_netlist}
use Rattle.si_netlist_reader.specs.NetlistValue.{netlist_of}
use Rattle.si_readings.specs.Checks.{IsSound}
use Rattle.si_refusals.specs.Refusal.{TextRefusal}
use Rattle.si_sg.specs.CanonicalText.{sg_text}
use Rattle.si_sg.specs.GivenGraph.{IsGivenBy}
use Rattle.si_stages.specs.Inserted.{insert}
use Rattle.si_stages.specs.InsertedLaws.{HasFewArcs}
use Rattle.si_stages.specs.Meaning.{synth}
use Rattle.si_suggestion.specs.Suggested.{resolve_suggested}
use Rattle.si_suggestion.specs.Suggestion.{IsSuggestion, suggest}

-- the text of the graph after the insertions of a netlist to which `suggest` comes for the graph
-- that the other text gives. Where it has no more arcs than are read, it is read back as that
-- graph, and what is synthesised from it has the same gates of the same signals, with those that
-- were inserted as internal ones, and no insertion
pub record IsSuggestedText (text resolved : List ℕ) : Type 0 where
  pub given : Sg
  pub is_given : IsGivenBy text given
  pub coded : CodedGraph
  pub sound : IsSound given.graph coded
  pub output : List ℕ
  pub suggestion : IsSuggestion Complex given.model given.states coded output
  pub suggests : (file : List ℕ) → suggest Complex file text (Ok output)
  pub text_is : resolved ≡ sg_text (current_sg given.model given.states suggestion.lineage)
  pub back : HasFewArcs suggestion.lineage
      → IsGivenBy resolved (current_sg given.model given.states suggestion.lineage)
  pub synthesised : HasFewArcs suggestion.lineage → (file : List ℕ)
      → synth Complex file resolved (Ok (netlist_text (internal_netlist (netlist_of output))))
  pub each_style : HasFewArcs suggestion.lineage → (style : Style) (file : List ℕ)
      → synth style file resolved (Ok (netlist_text (internal_netlist
      (circuit_of style given.model given.states suggestion.lineage))))

-- such is what `resolve` comes to where it is asked for suggested insertions
abbrev pub SuggestedTextsServe : Type 0
SuggestedTextsServe = (file text resolved : List ℕ) → resolve_suggested file text (Ok resolved)
    → IsSuggestedText text resolved

-- each netlist to which `suggest` comes has such a text, and its insertions are taken and make it
abbrev pub SuggestionsAreResolved : Type 0
SuggestionsAreResolved = (file text output : List ℕ) → suggest Complex file text (Ok output)
    → (resolved : List ℕ) × resolve_suggested file text (Ok resolved)
    × ((graph netlist : List ℕ) → insert graph text netlist output (Ok resolved))

-- it is refused just as `suggest` is
abbrev pub SuggestedAreRefusedAlike : Type 0
SuggestedAreRefusedAlike = (style : Style) (file text : List ℕ) (refusal : TextRefusal)
    → resolve_suggested file text (Err refusal) ↔ suggest style file text (Err refusal)
