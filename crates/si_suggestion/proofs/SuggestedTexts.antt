-- The text of a graph after suggested insertions: each text comes to an answer, it is read back, and gives the same gates.
use Rattle.std.proofs.Common.{◌≡◌, ℕ, List, Result, Ok, Err, None, refl, sym, ap, subst, ◌∙◌}
use Rattle.si_audit.specs.Audit.{TakesAll}
use Rattle.si_base.specs.Codes.{CodedGraph}
use Rattle.si_base.specs.GivenGraph.{Sg}
use Rattle.si_base.specs.Netlist.{Netlist}
use Rattle.si_base.specs.NetlistText.{netlist_text}
use Rattle.si_base.specs.System.{IsFor}
use Rattle.si_cell.specs.Library.{Library, IsLibrary}
use Rattle.si_circuit.specs.Circuits.{circuit_of}
use Rattle.si_circuit.specs.declared.style.Style.{Style}
use Rattle.si_circuit.specs.declared.style.Style.TheVariants.{Complex}
use Rattle.si_insert.specs.Lineage.{History, given_history}
use Rattle.si_inserted.specs.Current.{current_sg, internal_netlist}
use Rattle.si_netlist_reader.specs.NetlistFault.{netlist_fault}
use Rattle.si_netlist_reader.specs.NetlistValue.{netlist_of}
use Rattle.si_readings.proofs.ReadingLemmas.{mapping_readings_are, mapping_readings_some}
use Rattle.si_readings.proofs.ReadingsExist.{graph_some, proper_some}
use Rattle.si_readings.proofs.StageLemmas.{gives_some, passed, then_some}
use Rattle.si_readings.specs.Checks.{IsSound}
use Rattle.si_readings.specs.Laws.{HasResult}
use Rattle.si_readings.specs.Readings.{AuditReadings}
use Rattle.si_readings.specs.declared.library_format.LibraryFormat.{LibraryFormat}
use Rattle.si_refusals.specs.Refusal.{TextRefusal}
use Rattle.si_refusals.specs.Stages.{Passes, Refuses}
use Rattle.si_sg.specs.CanonicalText.{sg_text}
use Rattle.si_sg.specs.GivenGraph.{IsGivenBy}
use Rattle.si_stages.proofs.AuditLaws.{reads_back}
use Rattle.si_stages.proofs.GivenLineages.{IsGivenLineage}
use Rattle.si_stages.proofs.InsertedTexts.{gates_again, read_again}
use Rattle.si_readings.proofs.LibraryReadings.{is_library}
use Rattle.si_stages.specs.Inserted.{insert}
use Rattle.si_stages.specs.InsertedLaws.{HasFewArcs}
use Rattle.si_stages.specs.Meaning.{synth}
use Rattle.si_suggestion.proofs.SuggestedCells.{suggested_cells_some}
use Rattle.si_suggestion.proofs.SuggestedLineages.{is_taken, suggested_given}
use Rattle.si_suggestion.proofs.SuggestionsExist.{suggestion_some}
use Rattle.si_suggestion.specs.Suggested.{IsSuggestedLineage, map_suggested, resolve_suggested, suggested_cells}
use Rattle.si_suggestion.specs.Suggested.{suggested_lineage}
use Rattle.si_suggestion.specs.SuggestedLaws.{IsSuggestedText, SuggestedAreRefusedAlike, SuggestedTextsServe}
use Rattle.si_suggestion.specs.SuggestedLaws.{SuggestionsAreResolved}
use Rattle.si_suggestion.specs.Suggestion.{IsSuggestion, suggest, suggestion}

-- ---- to some answer
lineage_some : (text : List ℕ) (sg : Sg) (given : IsGivenBy text sg) (c : CodedGraph) → IsSound sg.graph c
    → HasResult (suggested_lineage sg.model sg.states c)
lineage_some text sg given c sound = go (suggestion_some Complex text sg given c sound)
  where
    go : HasResult (suggestion Complex sg.model sg.states c) → HasResult (suggested_lineage sg.model sg.states c)
    go (Ok output, is) = (Ok is.lineage, record { output = output; suggestion = is; lineage_is = refl })
    go (Err refusal, tells) = (Err refusal, tells)

pub resolve_suggested_some : (file text : List ℕ) → HasResult (resolve_suggested file text)
resolve_suggested_some file text = then_some _ _ (graph_some file text) (λ sg given.
    then_some _ _ (proper_some text sg given) (λ c sound.
    then_some _ _ (lineage_some text sg given c sound)
    (λ l suggests. gives_some (sg_text (current_sg sg.model sg.states l)))))

pub map_suggested_some : (format : LibraryFormat) (g a l b : List ℕ) → HasResult (map_suggested format g a l b)
map_suggested_some format g a l b = then_some _ _ (mapping_readings_some format g a l b) (λ readings read.
    let are = mapping_readings_are format g a l b readings read in
    let sg = readings.given in
    let good = is_library format b readings.library are.no_fault are.library in
    then_some _ _ (proper_some a sg are.given) (λ c sound.
    then_some _ _ (lineage_some a sg are.given c sound)
    (λ m suggests. cells readings.library sg m good c suggests sound are.given)))
  where
    cells : (library : Library) (sg : Sg) (m : History) → IsLibrary library → (c : CodedGraph)
        → IsSuggestedLineage sg.model sg.states c m → IsSound sg.graph c → IsGivenBy a sg
        → HasResult (suggested_cells library sg m)
    cells library sg m good c suggests sound given =
        let is = suggests.suggestion in
        let Some : History → Type 0 = λ x. HasResult (suggested_cells library sg x) in
        subst Some suggests.lineage_is
        (suggested_cells_some library sg is.lineage good (suggested_given Complex a sg c suggests.output given sound is)
        is.free)

-- ---- refused alike
one_refusal : {A : Type 0} (r q : TextRefusal) → ◌≡◌ {A = Result A TextRefusal} (Err q) (Err r) → r ≡ q
one_refusal r q same = cc

module _ (style : Style) (file text : List ℕ) (refusal : TextRefusal) where
  refused_alike : resolve_suggested file text (Err refusal) → suggest style file text (Err refusal)
  refused_alike (Refuses r is same) = Refuses r is same
  refused_alike (Passes given is (Refuses r improper same)) = Passes given is (Refuses r improper same)
  refused_alike (Passes given is (Passes c sound (Refuses r why same))) =
      Passes given is (Passes c sound (subst (λ (q : TextRefusal). suggestion style given.model given.states c (Err q))
      (one_refusal r refusal same) why))
  refused_alike (Passes given is (Passes c sound (Passes l suggests output))) = cc

  refused_back : suggest style file text (Err refusal) → resolve_suggested file text (Err refusal)
  refused_back (Refuses r is same) = Refuses r is same
  refused_back (Passes given is (Refuses r improper same)) = Passes given is (Refuses r improper same)
  refused_back (Passes given is (Passes c sound why)) = Passes given is (Passes c sound (Refuses refusal why refl))

pub suggested_are_refused_alike : SuggestedAreRefusedAlike
suggested_are_refused_alike style file text refusal =
    (refused_alike style file text refusal, refused_back style file text refusal)

-- ---- it is read back, and gives the gates of the netlist
module _ (text : List ℕ) (sg : Sg) (c : CodedGraph) (output : List ℕ) (given : IsGivenBy text sg)
    (sound : IsSound sg.graph c) (is : IsSuggestion Complex sg.model sg.states c output) where
  abbrev l : History
  l = is.lineage

  abbrev resolved : List ℕ
  resolved = sg_text (current_sg sg.model sg.states l)

  netlist_read : netlist_of output ≡ circuit_of Complex sg.model sg.states l
  netlist_read = ap netlist_of is.output_is ∙ (reads_back is.netlist is.is_netlist).1 ∙ is.gates_are

  own : IsGivenLineage sg l
  own = suggested_given Complex text sg c output given sound is

  its_gates : HasFewArcs l → (file : List ℕ)
      → synth Complex file resolved (Ok (netlist_text (internal_netlist (netlist_of output))))
  its_gates few file =
      let Made : Netlist → Type 0 = λ n. synth Complex file resolved (Ok (netlist_text (internal_netlist n))) in
      subst Made (sym netlist_read) (gates_again text sg l given own is.free few Complex file)

  pub serves : IsSuggestedText text resolved
  serves = record {
    given = sg;
    is_given = given;
    coded = c;
    sound = sound;
    output = output;
    suggestion = is;
    suggests = λ file. Passes sg given (Passes c sound is);
    text_is = refl;
    back = read_again text sg l given own is.free;
    synthesised = its_gates;
    each_style = λ few style file. gates_again text sg l given own is.free few style file;
  }

  -- the insertions of the netlist are taken, and make that text
  pub inserts_again : (g n : List ℕ) → insert g text n output (Ok resolved)
  inserts_again g n =
      let read : netlist_of output ≡ is.netlist = ap netlist_of is.output_is ∙ (reads_back is.netlist is.is_netlist).1 in
      let fault : netlist_fault output ≡ None = ap netlist_fault is.output_is ∙ (reads_back is.netlist is.is_netlist).0 in
      let fits : IsFor c (netlist_of output) = rw read is.is_for in
      let all : TakesAll sg.states (given_history c) (netlist_of output).inserts l =
      rw read (is_taken Complex sg.model sg.states c output is) in
      let readings : AuditReadings = record { given = sg; netlist = netlist_of output } in
      let reads = Passes sg given (Passes (netlist_of output) (fault, refl) refl) in
      Passes readings reads (Passes c sound (Passes tt fits (Passes l all refl)))

pub suggested_texts_serve : SuggestedTextsServe
suggested_texts_serve file text resolved comes =
    let (sg, given, later) = passed _ _ resolved comes in
    let (c, sound, ends) = passed _ _ resolved later in
    let (l, suggests, told) = passed _ _ resolved ends in
    let Text : History → List ℕ = λ m. sg_text (current_sg sg.model sg.states m) in
    let is_text : resolved ≡ Text l = cc in
    let same : Text suggests.suggestion.lineage ≡ resolved = ap Text suggests.lineage_is ∙ sym is_text in
    subst (λ (t : List ℕ). IsSuggestedText text t) same
    (serves text sg c suggests.output given sound suggests.suggestion)

pub suggestions_are_resolved : SuggestionsAreResolved
suggestions_are_resolved file text output made =
    let (sg, given, later) = passed _ _ output made in
    let (c, sound, is) = passed _ _ output later in
    let suggests : IsSuggestedLineage sg.model sg.states c is.lineage =
    record { output = output; suggestion = is; lineage_is = refl } in (
      sg_text (current_sg sg.model sg.states is.lineage),
      Passes sg given (Passes c sound (Passes is.lineage suggests refl)),
      inserts_again text sg c output given sound is,
    )
