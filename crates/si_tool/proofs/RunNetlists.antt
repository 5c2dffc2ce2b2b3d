-- What a run of `synth`, `suggest` or `map` that is done puts on `out`: a netlist that implements the graph of
-- its file.
use Rattle.std.proofs.Common.{◌≡◌, ℕ, List, [], ◌∷◌, Ok, String, Global, refl, sym, ap, subst, ◌∙◌, inl, inr, Bool}
use Rattle.std.proofs.Common.{true, false, ◌≢◌, ◌⊎◌, ◌||◌, bytes_eq, codes}
use Rattle.std.proofs.lemmas.Slice.Eq.{bytes_eq-Decides}
use Rattle.si_base.specs.Behaviour.{Implements}
use Rattle.si_base.specs.Codes.{CodedGraph}
use Rattle.si_base.specs.Graph.{StateGraph}
use Rattle.si_base.specs.GivenGraph.{Sg}
use Rattle.si_base.specs.System.{IsFor}
use Rattle.si_circuit.specs.declared.style.Style.{Style}
use Rattle.si_circuit.specs.declared.style.Style.TheVariants.{Complex, GeneralisedC}
use Rattle.si_insert.specs.Lineage.{History}
use Rattle.si_io.specs.Outside.{Appends, IsContent}
use Rattle.si_readings.specs.Checks.{IsSound, proper}
use Rattle.si_readings.specs.Readings.{graph_in, mapping_readings}
use Rattle.si_readings.specs.declared.library_format.LibraryFormat.{LibraryFormat}
use Rattle.si_readings.proofs.ReadingLemmas.{mapping_readings_are}
use Rattle.si_readings.proofs.StageLemmas.{passed}
use Rattle.si_refusals.specs.Stages.{gives}
use Rattle.si_refusals.specs.declared.status.Status.{Status}
use Rattle.si_refusals.specs.declared.status.Status.TheVariants as status
use Rattle.si_sg.specs.GivenGraph.{IsGivenBy}
use Rattle.si_stages.specs.Mapping.{cells_text}
use Rattle.si_stages.specs.Meaning.{mapping, synth}
use Rattle.si_stages.specs.Resolving.{lineage_of, resolution}
use Rattle.si_stages.specs.Synthesis.{synthesis}
use Rattle.si_stages.specs.Written.{IsWritten}
use Rattle.si_suggestion.specs.Suggested.{map_suggested, suggested_cells, suggested_lineage}
use Rattle.si_suggestion.specs.Suggestion.{suggest, suggestion}
use Rattle.si_words.specs.Names.{stands_in}
use Rattle.si_commands.specs.Command.{Asks, Request, format_of, format_words, is_suggested, map_options}
use Rattle.si_commands.specs.Form.{are_some, words_of}
use Rattle.si_tool.specs.Loads.{Contents, Counts, load, loads}
use Rattle.si_tool.specs.Meaning.{mapped_by, meaning}
use Rattle.si_tool.specs.Run.{SinkChange, Ends}
use Rattle.si_tool.specs.Theorem.{AreOptions, AskForNetlist, ImplementsText, PutsNetlist}
use Rattle.si_commands.specs.declared.task.LibraryKind.{LibraryKind}
use Rattle.si_commands.specs.declared.task.LibraryKind.TheVariants.{Cells, Gates}
use Rattle.si_commands.specs.declared.task.Task.TheVariants.{Map, Suggest, Synth}
use Rattle.si_tool.proofs.RunOutputs.{puts_output}

-- ---- over texts
written : (given : Sg) (l : History) (coded : CodedGraph) (text output : List ℕ) → IsGivenBy text given
    → IsSound given.graph coded → l.given ≡ coded → IsWritten given l output → ImplementsText text output
written given l coded text output is sound same made = record {
  given = given;
  is_given = is;
  netlist = made.netlist;
  is_netlist = made.is_netlist;
  output_is = made.text_is;
  model_is = made.model_is;
  coded = coded;
  is_coded = sound.coded_is;
  graph_is = sound.same_graph;
  is_for = subst (λ (c : CodedGraph). IsFor c made.netlist) same made.is_for;
  implements = made.implements;
}

synth_implements : (style : Style) (file text output : List ℕ) → synth style file text (Ok output)
    → ImplementsText text output
synth_implements style file text output comes =
    let (given, is, later) = passed (graph_in file text) _ output comes in
    let (l, resolves, told) = passed (resolution given.graph given.states) (synthesis style given) output later in
    let (coded, sound, ends) = passed (proper given.graph given.states) (λ c. lineage_of c given.states) l resolves in
    written given l coded text output is sound ends.given_is told.written

map_implements : (format : LibraryFormat) (g text n library output : List ℕ)
    → mapping format g text n library (Ok output) → ImplementsText text output
map_implements format g text n library output comes =
    let (readings, read, later) = passed (mapping_readings format g text n library) _ output comes in
    let given = readings.given in
    let is = (mapping_readings_are format g text n library readings read).given in
    let (l, resolves, told) = passed (resolution given.graph given.states) (cells_text readings.library given) output
    later in
    let (coded, sound, ends) = passed (proper given.graph given.states) (λ c. lineage_of c given.states) l resolves in
    written given told.lineage coded text output is sound (told.maps.goes.given_stays ∙ ends.given_is) told.written

suggest_implements : (style : Style) (file text output : List ℕ) → suggest style file text (Ok output)
    → ImplementsText text output
suggest_implements style file text output comes =
    let (given, is, later) = passed (graph_in file text) _ output comes in
    let (coded, sound, told) =
    passed (proper given.graph given.states) (suggestion style given.model given.states) output later in
    record {
      given = given;
      is_given = is;
      netlist = told.netlist;
      is_netlist = told.is_netlist;
      output_is = told.output_is;
      model_is = told.model_is;
      coded = coded;
      is_coded = sound.coded_is;
      graph_is = sound.same_graph;
      is_for = told.is_for;
      implements = subst (λ (g : StateGraph). Implements told.netlist g) sound.same_graph told.implements;
    }

map_suggested_implements : (format : LibraryFormat) (g text n library output : List ℕ)
    → map_suggested format g text n library (Ok output) → ImplementsText text output
map_suggested_implements format g text n library output comes =
    let (readings, read, later) = passed (mapping_readings format g text n library) _ output comes in
    let given = readings.given in
    let is = (mapping_readings_are format g text n library readings read).given in
    let (coded, sound, mapped) = passed (proper given.graph given.states) _ output later in
    let (l, suggests, told) = passed (suggested_lineage given.model given.states coded)
    (suggested_cells readings.library given) output mapped in
    let begins : l.given ≡ coded =
    ap (λ (m : History). m.given) (sym suggests.lineage_is) ∙ suggests.suggestion.given_is in
    written given told.lineage coded text output is sound (told.maps.goes.given_stays ∙ begins) told.written

mapped_implements : (suggested : Bool) (format : LibraryFormat) (g text n library output : List ℕ)
    → mapped_by suggested format g text n library (Ok output) → ImplementsText text output
mapped_implements true format g text n library output comes =
    map_suggested_implements format g text n library output comes
mapped_implements false format g text n library output comes = map_implements format g text n library output comes

-- ---- over a run
given_options : (options : List (List ℕ)) → AreOptions options → are_some map_options options ≡ true
given_options options (inl none) = rw none refl
given_options options (inr (inl suggest)) = rw suggest refl
given_options options (inr (inr (inl plain))) = rw plain refl
given_options options (inr (inr (inr both))) = rw both refl

module _ (content : Contents) (before now : Counts) (file : List ℕ) (out : SinkChange) (output : List ℕ)
    (done : Appends out.old output out.new) where
  -- what stands on `out` for the text of the first file
  first_put : (files : List (List ℕ)) (text : List ℕ) (texts : List (List ℕ))
      → loads content before now (file ∷ files) (Ok (text ∷ texts)) → ImplementsText text output
      → PutsNetlist (content file) out.old out.new
  first_put files text texts loaded implements =
      let (first, one, later) = passed (load content before now file) _ (text ∷ texts) loaded in
      let (rest, others, same) = passed (loads content before now files) (λ ys. gives (first ∷ ys)) (text ∷ texts) later in
      let same_first : first ≡ text = cc in record {
        text = text;
        read = subst (λ (x : List ℕ). IsContent (content file) x) same_first one.0;
        output = output;
        implements = implements;
        written = done;
      }

  of_synth : (style : Style) (texts : List (List ℕ)) → loads content before now (file ∷ []) (Ok texts)
      → meaning (Synth style) (file ∷ []) [] texts (Ok output) → PutsNetlist (content file) out.old out.new
  of_synth style [] loaded means = absurd means
  of_synth style (text ∷ []) loaded means = first_put [] text [] loaded (synth_implements style file text output means)
  of_synth style (text ∷ other ∷ texts) loaded means = absurd means

  of_suggest : (style : Style) (texts : List (List ℕ)) → loads content before now (file ∷ []) (Ok texts)
      → meaning (Suggest style) (file ∷ []) [] texts (Ok output) → PutsNetlist (content file) out.old out.new
  of_suggest style [] loaded means = absurd means
  of_suggest style (text ∷ []) loaded means =
      first_put [] text [] loaded (suggest_implements style file text output means)
  of_suggest style (text ∷ other ∷ texts) loaded means = absurd means

  of_map : (kind : LibraryKind) (library : List ℕ) (options texts : List (List ℕ))
      → loads content before now (file ∷ library ∷ []) (Ok texts)
      → meaning (Map kind) (file ∷ library ∷ []) options texts (Ok output) → PutsNetlist (content file) out.old out.new
  of_map kind library options [] loaded means = absurd means
  of_map kind library options (text ∷ []) loaded means = absurd means
  of_map kind library options (text ∷ cells ∷ []) loaded means =
      first_put (library ∷ []) text (cells ∷ []) loaded
      (mapped_implements (is_suggested options) (format_of kind options) file text library cells output means)
  of_map kind library options (text ∷ cells ∷ other ∷ texts) loaded means = absurd means

-- a library that isn't called `genlib`, or has no words behind it, is one by the words of `map`
not_listed : (library : List ℕ) → library ≢ codes "genlib" → stands_in format_words library ≡ false
not_listed library differ = by (bytes_eq library (codes "genlib")) refl
  where
    by : (b : Bool) → bytes_eq library (codes "genlib") ≡ b → (bytes_eq library (codes "genlib") || false) ≡ false
    by true is = absurd (differ ((bytes_eq-Decides library (codes "genlib")).0 is))
    by false is = rw is refl

not_kept : (library : List ℕ) (options : List (List ℕ)) → (library ≢ codes "genlib") ⊎ (options ≡ [])
    → (stands_in format_words library ≡ false) ⊎ (options ≡ [])
not_kept library options (inl other) = inl (not_listed library other)
not_kept library options (inr none) = inr none

module _ (words : List (String Global)) (content : Contents) (before now : Counts) (out err : SinkChange)
    (result : Status) where
  map_put : (kind : LibraryKind) (file library : List ℕ) (options : List (List ℕ))
      → Ends words (loads content before now) out err result → result ≡ status.Done
      → Asks words (record { task = Map kind; files = file ∷ library ∷ []; choices = options })
      → PutsNetlist (content file) out.old out.new
  map_put kind file library options ends is asks =
      let asked : Request = record { task = Map kind; files = file ∷ library ∷ []; choices = options } in
      let puts = puts_output words content before now out err result asked asks ends is in
      of_map content before now file out puts.output puts.written kind library options puts.texts puts.loaded puts.means

  pub netlist_put : (file : List ℕ) → Ends words (loads content before now) out err result → result ≡ status.Done
      → AskForNetlist file (words_of words) → PutsNetlist (content file) out.old out.new
  netlist_put file ends is (inl (inl asks)) =
      let asked : Request = record { task = Synth Complex; files = file ∷ []; choices = [] } in
      let puts = puts_output words content before now out err result asked (asks, tt) ends is in
      of_synth content before now file out puts.output puts.written Complex puts.texts puts.loaded puts.means
  netlist_put file ends is (inl (inr asks)) =
      let asked : Request = record { task = Synth GeneralisedC; files = file ∷ []; choices = [] } in
      let puts = puts_output words content before now out err result asked (asks, tt) ends is in
      of_synth content before now file out puts.output puts.written GeneralisedC puts.texts puts.loaded puts.means
  netlist_put file ends is (inr (inl (inl asks))) =
      let asked : Request = record { task = Suggest Complex; files = file ∷ []; choices = [] } in
      let puts = puts_output words content before now out err result asked (asks, tt) ends is in
      of_suggest content before now file out puts.output puts.written Complex puts.texts puts.loaded puts.means
  netlist_put file ends is (inr (inl (inr asks))) =
      let asked : Request = record { task = Suggest GeneralisedC; files = file ∷ []; choices = [] } in
      let puts = puts_output words content before now out err result asked (asks, tt) ends is in
      of_suggest content before now file out puts.output puts.written GeneralisedC puts.texts puts.loaded puts.means
  netlist_put file ends is (inr (inr (library, options, are, inl (asks, other)))) =
      map_put Cells file library options ends is (asks, (not_kept library options other, given_options options are))
  netlist_put file ends is (inr (inr (library, options, are, inr asks))) =
      map_put Gates file library options ends is (asks, given_options options are)
