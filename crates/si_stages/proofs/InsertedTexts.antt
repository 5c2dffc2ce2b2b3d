-- The text of a graph after insertions: it comes to one answer, is read back, and gives the same gates.
use Rattle.std.proofs.Common.{◌≡◌, ◌≢◌, ℕ, suc, List, [], ◌∷◌, Ok, Err, All, IsTrue, refl, sym, ap, subst, ◌∙◌, inl}
use Rattle.std.proofs.Common.{inr, arith, map, filter, Bool}
use Rattle.std.proofs.lemmas.List.{get_or-map, length-map}
use Rattle.std.proofs.lemmas.List.Elements.{All-filter, All-map}
use Rattle.si_audit.proofs.AuditExists.{certified_or_faulty}
use Rattle.si_audit.proofs.OneAudit.{goes_on, spelled_first}
use Rattle.si_audit.proofs.OneCertificate.{one_lineage, rejected_not_taken, two_rejected}
use Rattle.si_audit.proofs.InsertionFaults.{is_rejected, rejected_or_taken, rejection_shows}
use Rattle.si_audit.proofs.FaultSignalLemmas.{tells}
use Rattle.si_audit.proofs.WalkLemmas.{given_stays}
use Rattle.si_audit.specs.Audit.{TakesAll}
use Rattle.si_audit.specs.Faults.{ShowsRejection}
use Rattle.si_audit.specs.Laws.{CanBeAudited}
use Rattle.si_audit.specs.declared.fault.AuditFault.{AuditFault}
use Rattle.si_audit.specs.declared.fault.AuditFault.TheVariants.{NoMemory}
use Rattle.si_base.specs.Codes.{CodedGraph}
use Rattle.si_base.specs.GivenGraph.{Sg}
use Rattle.si_base.specs.Graph.{StateGraph}
use Rattle.si_base.specs.Netlist.{Insertion, Netlist}
use Rattle.si_base.specs.declared.graph.Signal.{Signal}
use Rattle.si_base.specs.declared.graph.SigKind.TheVariants.{Inserted}
use Rattle.si_base.specs.NetlistText.{netlist_text, same_kind}
use Rattle.si_base.specs.Proper.{HasNoConflict}
use Rattle.si_base.specs.WellFormed.{IsNetlist}
use Rattle.si_base.specs.Words.{is_signal_name}
use Rattle.si_circuit.specs.Circuits.{AreStateNames, circuit_of}
use Rattle.si_circuit.specs.Gates.{chosen_netlist}
use Rattle.si_circuit.specs.Spelled.{AreSpelled}
use Rattle.si_circuit.specs.Spelling.{insertions_of}
use Rattle.si_circuit.specs.declared.style.Style.{Style}
use Rattle.si_insert.proofs.InsertionKeeps.{keeps}
use Rattle.si_insert.specs.Lineage.{History, given_history}
use Rattle.si_inserted.proofs.CurrentTexts.{texts_read_back}
use Rattle.si_inserted.proofs.InternalGraphGates.{same_netlist}
use Rattle.si_inserted.proofs.InternalGraphLemmas.{internal_is_coded, internal_is_distinct, internal_is_proper}
use Rattle.si_inserted.specs.Current.{current_sg, internal_coded, internal_graph, internal_netlist}
use Rattle.si_netlist_reader.specs.NetlistValue.{netlist_of}
use Rattle.si_readings.proofs.CheckLemmas.{graph_one, match_lists_one, proper_one}
use Rattle.si_readings.proofs.ReadingLemmas.{audit_readings_are, audit_readings_one, audit_readings_some}
use Rattle.si_readings.proofs.ReadingsExist.{graph_some, match_lists_some, proper_some}
use Rattle.si_readings.proofs.StageLemmas.{gives_one, gives_some, passed, then_one, then_some}
use Rattle.si_readings.specs.Checks.{IsSound}
use Rattle.si_readings.specs.Laws.{AtMostOne, HasResult}
use Rattle.si_refusals.specs.Ending.{Ending, MayStop}
use Rattle.si_refusals.specs.Ending as ending
use Rattle.si_refusals.specs.Refusal.{Rejected, TextRefusal, TextRefused}
use Rattle.si_refusals.specs.Stages.{Passes, Refuses}
use Rattle.si_refusals.specs.declared.rejection.NamedRejection.{NamedRejection}
use Rattle.si_sg.proofs.GivenApart.{given_apart}
use Rattle.si_sg.specs.CanonicalText.{sg_text}
use Rattle.si_sg.specs.GivenGraph.{IsGivenBy}
use Rattle.si_stages.proofs.AuditLaws.{reads_back}
use Rattle.si_stages.proofs.AuditLemmas.{not_memory, one_name, readings_can, some_name}
use Rattle.si_stages.proofs.GivenLineages.{IsGivenLineage, given_lineage, given_spelled, given_state_names}
use Rattle.si_stages.proofs.MeaningLemmas.{own_resolution, synth_one}
use Rattle.si_stages.proofs.ResolutionLemmas.{IsResolution, resolution_is, resolution_of}
use Rattle.si_stages.proofs.ResolutionLemmas.{resolution_one, resolution_some}
use Rattle.si_stages.proofs.SynthesisLemmas.{is_synthesis}
use Rattle.si_stages.specs.Audited.{IsNamedSo, TellsRejection}
use Rattle.si_stages.specs.Inserted.{IsInsertRejection, insert, resolve, lineage_with_insertions}
use Rattle.si_insert.proofs.LineageTraceLength.{named_after}
use Rattle.si_stages.specs.InsertedLaws.{HasFewArcs, InsertedTextsReadBack, ResolvedAreSynthesised}
use Rattle.si_stages.specs.InsertedLaws.{ResolvedTextsServe}
use Rattle.si_stages.specs.Meaning.{synth}

-- ---- one answer
pub resolve_one : (file text : List ℕ) → AtMostOne (resolve file text)
resolve_one file text = then_one _ _ (graph_one file text) (λ given is.
    then_one _ _ (resolution_one given.graph given.states)
    (λ l resolves. gives_one (sg_text (current_sg given.model given.states l))))

pub resolve_some : (file text : List ℕ) → HasResult (resolve file text)
resolve_some file text = then_some _ _ (graph_some file text) (λ given is.
    then_some _ _ (resolution_some text given is)
    (λ l resolves. gives_some (sg_text (current_sg given.model given.states l))))

module _ (states : List (List ℕ)) (coded : CodedGraph) (n : Netlist) (can : CanBeAudited states coded n) where
  never_both : (l : History) (refusal : TextRefusal) → TakesAll states (given_history coded) n.inserts l
      → IsInsertRejection states coded n refusal → ⊥
  never_both l refusal takes rejects =
      let other = not_memory n.signals rejects.fault rejects.reason rejects.named in
      rejected_not_taken states coded n can rejects.fault l other
      (is_rejected states coded n rejects.fault other rejects.shows) takes

  pub taken_one : AtMostOne (lineage_with_insertions states coded n)
  taken_one (Ok l) (Ok m) one other = ap Ok (one_lineage states coded n can l m one other)
  taken_one (Ok l) (Err r) one other = absurd (never_both l r one other)
  taken_one (Err r) (Ok m) one other = absurd (never_both m r other one)
  taken_one (Err r) (Err q) one other =
      let not_one = not_memory n.signals one.fault one.reason one.named in
      let not_other = not_memory n.signals other.fault other.reason other.named in
      let same : one.fault ≡ other.fault =
      two_rejected states coded n can one.fault other.fault not_one not_other
      (is_rejected states coded n one.fault not_one one.shows)
      (is_rejected states coded n other.fault not_other other.shows) in
      let P : AuditFault → Type 0 = λ f. IsNamedSo n.signals f other.reason in
      let name : one.reason ≡ other.reason =
      one_name n.signals one.fault one.reason other.reason one.named (subst P (sym same) other.named) in
      ap Err (one.refusal_is ∙ ap (λ (r : NamedRejection). Rejected r) name ∙ sym other.refusal_is)

  rejection_named : (fault : AuditFault) → fault ≢ NoMemory → ShowsRejection states coded n fault
      → HasResult (lineage_with_insertions states coded n)
  rejection_named fault other shows =
      let told = tells states coded n fault can (rejection_shows states coded n fault shows) in
      let name = some_name n.signals fault other told in
      let rejects : IsInsertRejection states coded n (Rejected name.0) =
      record { fault = fault; shows = shows; reason = name.0; named = name.1; refusal_is = refl } in
      (Err (Rejected name.0), rejects)

  pub taken_some : HasResult (lineage_with_insertions states coded n)
  taken_some = elim (certified_or_faulty states coded n can) [
    | inl (l, certifies) ↦ (Ok l, certifies.taken)
    | inr (fault, other, shows) ↦ elim (rejected_or_taken states coded n fault shows) [
      | inl rejects ↦ rejection_named fault other rejects
      | inr (l, all) ↦ (Ok l, all)
    ]
  ]

-- where a call may stop
pub insertion_told : (states : List (List ℕ)) (coded : CodedGraph) (n : Netlist) (fault : AuditFault) (e : Ending)
    → ShowsRejection states coded n fault → TellsRejection n.signals fault e
    → MayStop (lineage_with_insertions states coded n) e
insertion_told states coded n fault ending.NoMemory shows told = tt
insertion_told states coded n fault (ending.Answered (TextRefused refusal)) shows (reason, so, is) =
    record { fault = fault; shows = shows; reason = reason; named = so; refusal_is = is }
insertion_told states coded n fault e shows told = absurd told

pub insert_one : (g a n b : List ℕ) → AtMostOne (insert g a n b)
insert_one g a n b = then_one _ _ (audit_readings_one g a n b)
    (λ readings read. then_one _ _ (proper_one readings.given.graph readings.given.states)
    (λ coded sound. then_one _ _ (match_lists_one n coded readings.netlist)
    (λ _ fits. then_one _ _ (taken_one readings.given.states coded readings.netlist
    (readings_can a b readings coded (audit_readings_are g a n b readings read) sound fits))
    (λ l takes. gives_one (sg_text (current_sg readings.given.model readings.given.states l))))))

pub insert_some : (g a n b : List ℕ) → HasResult (insert g a n b)
insert_some g a n b = then_some _ _ (audit_readings_some g a n b)
    (λ readings read. let are = audit_readings_are g a n b readings read in
    then_some _ _ (proper_some a readings.given are.given)
    (λ coded sound. then_some _ _ (match_lists_some n coded readings.netlist)
    (λ _ fits. then_some _ _ (taken_some readings.given.states coded readings.netlist
    (readings_can a b readings coded are sound fits))
    (λ l takes. gives_some (sg_text (current_sg readings.given.model readings.given.states l))))))

-- the states of the given graph keep their names
pub names_taken : (states : List (List ℕ)) (coded : CodedGraph) (n : Netlist) (l : History)
    → AreStateNames coded.graph states → TakesAll states (given_history coded) n.inserts l
    → AreStateNames l.given.graph states
names_taken states coded n l are takes =
    let stays = ap (λ (c : CodedGraph). c.graph) (given_stays states (given_history coded) n.inserts l takes) in
    subst (λ (g : StateGraph). AreStateNames g states) (sym stays) are

-- a lineage of a given graph that takes insertions with signal names is one
taken_lineage : (sg : Sg) (l : History) (inserts : List Insertion) (m : History) → IsGivenLineage sg l
    → All (λ i. IsTrue (is_signal_name i.name)) inserts → TakesAll sg.states l inserts m → IsGivenLineage sg m
taken_lineage sg l [] m is named same = subst (IsGivenLineage sg) same is
taken_lineage sg l (i ∷ rest) m is named (w, takes, more) = taken_lineage sg w rest m (record {
  line = goes_on sg.states l i w is.line takes;
  graph_is = ap (λ (c : CodedGraph). c.graph) takes.extends.given_stays ∙ is.graph_is;
  spelled = record {
    model_name = is.spelled.model_name;
    names = named_after l.current takes.step w.current takes.extends.inserts
        (subst (λ (n : List ℕ). IsTrue (is_signal_name n)) (sym takes.name_is) (named 0 i (omega arith)))
        is.spelled.names;
  };
  names = subst (λ (c : CodedGraph). AreStateNames c.graph sg.states) (sym takes.extends.given_stays) is.names;
}) (λ k d below. named (suc k) d (omega (arith, below))) more

-- a netlist inserts signals with signal names
inserts_named : (n : Netlist) → IsNetlist n → All (λ i. IsTrue (is_signal_name i.name)) n.inserts
inserts_named n is = λ k i below. subst IsName (get_or-map name_of n.inserts k i i.name below)
    (all k i.name (omega (arith, below, length-map n.inserts name_of)))
  where
    IsName : List ℕ → Type 0
    IsName name = IsTrue (is_signal_name name)

    name_of : Insertion → List ℕ
    name_of i = i.name

    is_one : Signal → Bool
    is_one x = same_kind Inserted x.kind

    all : All IsName (map name_of n.inserts)
    all = subst (All IsName) (sym is.insert_names) (All-map IsName (λ (x : Signal). x.name) (filter is_one n.signals)
        (All-filter is_one (λ x. IsName x.name) n.signals is.names))

-- the given graph, into which nothing is inserted
first_lineage : (text : List ℕ) (sg : Sg) (coded : CodedGraph) (n : Netlist) → IsGivenBy text sg
    → IsSound sg.graph coded → CanBeAudited sg.states coded n → IsGivenLineage sg (given_history coded)
first_lineage text sg coded n given sound can =
    let back : sg.graph ≡ coded.graph = sym sound.same_graph in
    record {
      line = (spelled_first sg.states coded n can).lineage;
      graph_is = sound.same_graph;
      spelled = subst (λ (g : StateGraph). AreSpelled sg.model g.signals) back (given_spelled text sg given);
      names = subst (λ (g : StateGraph). AreStateNames g sg.states) back (given_state_names text sg given);
    }

-- ---- the refusals of `synth`
refused_alike : (style : Style) (file text : List ℕ) (refusal : TextRefusal) → resolve file text (Err refusal)
    → synth style file text (Err refusal)
refused_alike style file text refusal (Refuses r is same) = Refuses r is same
refused_alike style file text refusal (Passes given is (Refuses r unresolved same)) =
    Passes given is (Refuses r unresolved same)
refused_alike style file text refusal (Passes given is (Passes l resolves output)) = cc

refused_back : (style : Style) (file text : List ℕ) (refusal : TextRefusal) → synth style file text (Err refusal)
    → resolve file text (Err refusal)
refused_back style file text refusal (Refuses r is same) = Refuses r is same
refused_back style file text refusal (Passes given is (Refuses r unresolved same)) =
    Passes given is (Refuses r unresolved same)
refused_back style file text refusal (Passes given is (Passes l resolves output)) = absurd output

pub resolved_are_synthesised : ResolvedAreSynthesised
resolved_are_synthesised style file text refusal =
    (refused_alike style file text refusal, refused_back style file text refusal)

-- ---- the text of a lineage of a given graph that leaves no conflict
module _ (text : List ℕ) (sg : Sg) (l : History) (given : IsGivenBy text sg) (own : IsGivenLineage sg l)
    (free : HasNoConflict l.current.coded) where
  abbrev again : Sg
  again = current_sg sg.model sg.states l

  pub read_again : HasFewArcs l → IsGivenBy (sg_text again) again
  read_again few = texts_read_back sg.model sg.states l (record {
    line = own.line;
    spelled = own.spelled;
    names = own.names;
    apart = given_apart text sg given;
    few_arcs = few;
  })

  -- the graph that is read again
  abbrev coded : CodedGraph
  coded = internal_coded l.current.coded

  is_sound : IsSound (internal_graph l.current.coded.graph) coded
  is_sound =
      let kept = keeps l.given l.trace l.current own.line in
      record {
        coded_is = internal_is_coded l.current.coded kept.coded;
        same_graph = refl;
        proper = internal_is_proper l.current.coded.graph kept.proper;
      }

  resolves_itself : IsResolution again.graph (given_history coded)
  resolves_itself = own_resolution again coded is_sound (internal_is_distinct l.current.coded free)

  -- with nothing inserted its netlist is that of the chosen gates
  none_spelled : (style : Style)
      → circuit_of style again.model again.states (given_history coded) ≡ chosen_netlist style sg.model coded
  unfolding insertions_of
  none_spelled style = refl

  same_gates : (style : Style) → circuit_of style again.model again.states (given_history coded)
      ≡ internal_netlist (circuit_of style sg.model sg.states l)
  same_gates style = none_spelled style ∙ same_netlist style sg.model (insertions_of sg.states l) l.current.coded

  pub gates_again : HasFewArcs l → (style : Style) (file : List ℕ) → synth style file (sg_text again)
      (Ok (netlist_text (internal_netlist (circuit_of style sg.model sg.states l))))
  gates_again few style file =
      let back = read_again few in
      let written = ap (λ (n : Netlist). netlist_text n) (sym (same_gates style)) in
      Passes again back (Passes (given_history coded)
      (resolution_of again.graph again.states (given_history coded) resolves_itself)
      (is_synthesis style (sg_text again) again (given_history coded) _ back resolves_itself written))

-- where its insertions are those that resolve the graph
module _ (text : List ℕ) (sg : Sg) (l : History) (given : IsGivenBy text sg) (is : IsResolution sg.graph l) where
  own : IsGivenLineage sg l
  own = given_lineage text sg l given is

  module _ (style : Style) where
    abbrev first : Netlist
    first = circuit_of style sg.model sg.states l

    same_output : (file output : List ℕ) → synth style file text (Ok (netlist_text first))
        → synth style file text (Ok output) → output ≡ netlist_text first
    same_output file output one other =
        let same = synth_one style file text (Ok (netlist_text first)) (Ok output) one other in cc

    made_first : (file output : List ℕ) → synth style file text (Ok output) → netlist_of output ≡ first
    made_first file output made =
        let own_text = is_synthesis style text sg l (netlist_text first) given is refl in
        let own_made : synth style file text (Ok (netlist_text first)) =
        Passes sg given (Passes l (resolution_of sg.graph sg.states l is) own_text) in
        ap netlist_of (same_output file output own_made made)
        ∙ (reads_back first (subst IsNetlist own_text.gates_are own_text.written.is_netlist)).1

    made_again : HasFewArcs l → (file output resolved_file : List ℕ) → synth style file text (Ok output)
        → synth style resolved_file (sg_text (current_sg sg.model sg.states l))
        (Ok (netlist_text (internal_netlist (netlist_of output))))
    made_again few file output resolved_file made =
        let Made : Netlist → Type 0 = λ n. synth style resolved_file (sg_text (current_sg sg.model sg.states l))
        (Ok (netlist_text (internal_netlist n))) in
        subst Made (sym (made_first file output made))
        (gates_again text sg l given own is.resolves.done few style resolved_file)

pub resolved_texts_serve : ResolvedTextsServe
resolved_texts_serve file text resolved comes =
    let given = passed _ _ resolved comes in
    let ends = passed _ _ resolved given.2 in
    let sg = given.0 in
    let l = ends.0 in
    let is = resolution_is sg.graph sg.states l ends.1 in
    let output = ends.2 in
    let same : resolved ≡ sg_text (current_sg sg.model sg.states l) = cc in
    record {
      given = sg;
      is_given = given.1;
      lineage = l;
      resolves = ends.1;
      text_is = same;
      back = subst (λ (t : List ℕ). HasFewArcs l → IsGivenBy t (current_sg sg.model sg.states l)) (sym same)
          (read_again text sg l given.1 (given_lineage text sg l given.1 is) is.resolves.done);
      synthesised = subst (λ (t : List ℕ). HasFewArcs l → (style : Style) (file again_file output : List ℕ)
          → synth style file text (Ok output)
          → synth style again_file t (Ok (netlist_text (internal_netlist (netlist_of output))))) (sym same)
          (λ few style file again_file output made.
          made_again text sg l given.1 is style few file output again_file made);
    }

-- ---- the text after the insertions of a netlist
pub inserted_texts_read_back : InsertedTextsReadBack
inserted_texts_read_back g a n b inserted comes =
    let read = passed _ _ inserted comes in
    let are = audit_readings_are g a n b read.0 read.1 in
    let sg = read.0.given in
    let proper = passed _ _ inserted read.2 in
    let fits = passed _ _ inserted proper.2 in
    let takes = passed _ _ inserted fits.2 in
    let coded = proper.0 in
    let l = takes.0 in
    let can = readings_can a b read.0 coded are proper.1 fits.1 in
    let output = takes.2 in
    let same : inserted ≡ sg_text (current_sg sg.model sg.states l) = cc in
    let first = first_lineage a sg coded read.0.netlist are.given proper.1 can in
    let own = taken_lineage sg (given_history coded) read.0.netlist.inserts l first
    (inserts_named read.0.netlist can.netlist) takes.1 in
    record {
      given = sg;
      is_given = are.given;
      coded = coded;
      sound = proper.1;
      lineage = l;
      takes = subst (λ (m : Netlist). TakesAll sg.states (given_history coded) m.inserts l) are.netlist takes.1;
      text_is = same;
      back = λ few. subst (λ (t : List ℕ). IsGivenBy t (current_sg sg.model sg.states l)) (sym same)
          (texts_read_back sg.model sg.states l (record {
            line = own.line;
            spelled = own.spelled;
            names = own.names;
            apart = given_apart a sg are.given;
            few_arcs = few;
          }));
    }
