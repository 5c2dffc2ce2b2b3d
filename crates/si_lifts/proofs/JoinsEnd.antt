-- Joining ends as the laws say.
use Rattle.std.proofs.Common.{◌≡◌, ℕ, suc, ◌<◌, List, [], ◌∷◌, length, zip, All, IsTrue, Ok, Err, refl}
use Rattle.std.proofs.Common.{Some, false, slice_get}
use Rattle.std.proofs.Common.{sym, ap, subst, subst₂, ◌∙◌, arith, inl, inr, ◌⊎◌}
use Rattle.std.proofs.lemmas.List.{length-map}
use Rattle.si_base.specs.declared.graph.Signal.{Signal}
use Rattle.si_base.specs.Behaviour.{Implements}
use Rattle.si_base.specs.Codes.{CodedGraph}
use Rattle.si_base.specs.Graph.{StateGraph, name_of}
use Rattle.si_base.specs.Netlist.{Netlist}
use Rattle.si_base.specs.NetlistText.{netlist_text}
use Rattle.si_base.specs.System.{IsFor, is_inserted}
use Rattle.si_base.specs.WellFormed.{IsNetlist}
use Rattle.si_base.specs.Words.{is_signal_name}
use Rattle.si_audit.specs.Audit.{Certifies}
use Rattle.si_audit.proofs.AuditBuiltLineages.{built_are_certified}
use Rattle.si_audit.proofs.OneCertificate.{certified_implement}
use Rattle.si_circuit.specs.Gates as circuit_gates
use Rattle.si_circuit.specs.Spelling.{insertions_of}
use Rattle.si_checks.proofs.ByCodesExist.{some_codes}
use Rattle.si_compose.specs.JoinedNetlist.{IsJoined}
use Rattle.si_compose.specs.Renamed.{HasGatesOf}
use Rattle.si_insert.specs.Lineage.{AllGiven, History, given_current, given_history}
use Rattle.si_insert.proofs.InsertionKeeps.{keeps}
use Rattle.si_insert.proofs.LineageTraceLength.{AreNamed}
use Rattle.si_joins.specs.Gates.{all_places, joined_netlist}
use Rattle.si_joins.specs.Join.{join, joined, passing}
use Rattle.si_joins.specs.Laws.{graphs_among}
use Rattle.si_joins.specs.Loops.Audited.{AreAudited}
use Rattle.si_joins.specs.Steps.{with_parts}
use Rattle.si_joins.proofs.NetlistMade.{joined_is_netlist}
use Rattle.si_joins.proofs.PartFacts.{EachPart, are_audited, are_given, are_netlists, are_sound, given_in, givens}
use Rattle.si_joins.proofs.PartFacts.{composed_proper, none_inserted, proper_parts, whole_writable}
use Rattle.si_netlist_reader.specs.NetlistValue.{netlist_of}
use Rattle.si_readings.specs.Checks.{IsSound, proper}
use Rattle.si_readings.proofs.CheckLemmas.{proper_one}
use Rattle.si_readings.proofs.StageLemmas.{no_refusal, one_value, passed}
use Rattle.si_refusals.specs.Refusal.{TextRefusal}
use Rattle.si_refusals.specs.Stages.{Passes, each}
use Rattle.si_sg.specs.CanonicalText.{IsWritable, sg_text}
use Rattle.si_sg.proofs.WholeLaw.{read_back}
use Rattle.si_stages.specs.Audited.{audit_text}
use Rattle.si_stages.specs.Meaning.{audit}
use Rattle.si_stages.proofs.AuditLaws.{reads_back}
use Rattle.si_stages.proofs.AuditLemmas.{audit_one, can_be_audited, certified_output}
use Rattle.si_stages.proofs.WrittenLemmas.{is_for_given}
use Rattle.si_systems.specs.Compose.{ComposedSg, IsComposedSg, compose, composed}
use Rattle.si_works.specs.Audited.{AuditedPart, audited_part, audited_parts}
use Rattle.si_works.specs.System.{two_by_two}
use Rattle.si_works.specs.Works.{graphs}
use Rattle.si_works.proofs.AuditedLemmas.{parts_are_audited}
use Rattle.si_lifts.specs.Laws.{IsOfParts, JoinedAreOfParts, JoinsAreRefusedSo, MayRefuse}
use Rattle.si_lifts.specs.Parts.{named_part, part_at, to_at}
use Rattle.si_lifts.specs.Reasons.{IsOfInsertion}
use Rattle.si_lifts.proofs.AuditedParts.{all_audited, begins, coded_at, count, final_at, netlists}
use Rattle.si_lifts.proofs.JoinedParts.{gates_are, is_built, joined_are, own_names}
use Rattle.si_lifts.proofs.Told.{refused_then}
use Rattle.si_lifts.proofs.LiftedParts.{IsAfterPart, parts_refused, parts_taken}

-- ---- over audited parts with a composed graph
module _ (parts : List AuditedPart) (are : AreAudited parts) (some : 0 < length parts) (whole : ComposedSg)
    (is : IsComposedSg (givens parts) (graphs parts) whole) (start : CodedGraph) (sound : IsSound whole.sg.graph start)
  where
    writable : IsWritable whole.sg
    writable = whole_writable (givens parts) (graphs parts) (are_given parts are) (are_sound parts are)
        (let many = length-map parts (λ p. p.given) in omega (arith, some, many)) whole is

    given_alone : AllGiven start.graph.signals
    given_alone = none_inserted whole.sg start writable sound

    named : AreNamed (given_current start)
    named = subst (λ (g : StateGraph). All (λ x. IsTrue (is_signal_name x.name)) g.signals) (sym sound.same_graph)
        writable.signals

    abbrev tuples : List (List ℕ)
    tuples = whole.tuples

    insertions_refused : (r : TextRefusal) → with_parts whole.sg.states tuples (given_history start) (givens parts)
        (netlists parts) (Err r) → IsOfInsertion r
    insertions_refused = parts_refused (count parts) tuples start (netlists parts) (coded_at parts) (final_at parts are)
        whole.sg.states
        (given_history start) 0 (zip (givens parts) (netlists parts))
        (begins parts are tuples whole.sg.graph is.0 start sound given_alone named)
        (all_audited parts are tuples whole.sg.graph is.0 start sound given_alone named)

    -- ---- where all insertions are taken
    module _ (l : History) (taken : with_parts whole.sg.states tuples (given_history start) (givens parts)
        (netlists parts) (Ok l)) where
      after : IsAfterPart (count parts) tuples start (netlists parts) (coded_at parts) (final_at parts are) l
          (count parts)
      after = parts_taken (count parts) tuples start (netlists parts) (coded_at parts) (final_at parts are)
          whole.sg.states (given_history start) 0
          (zip (givens parts) (netlists parts))
          (begins parts are tuples whole.sg.graph is.0 start sound given_alone named)
          (all_audited parts are tuples whole.sg.graph is.0 start sound given_alone named) l taken

      abbrev made : Netlist
      made = joined_netlist whole.sg.model whole.sg.states (netlists parts) l

      given_is : l.given ≡ start
      given_is = after.before.given_is

      made_is_netlist : IsNetlist made
      made_is_netlist = joined_is_netlist whole.sg.model whole.sg.states (netlists parts) l after.before.lineage
          (keeps l.given l.trace l.current after.before.lineage)
          (record { model_name = writable.model; names = after.before.named })
          (record {
            count = writable.count ∙ sym (ap (λ (c : CodedGraph). c.graph.states) given_is
                ∙ ap (λ (g : StateGraph). g.states) sound.same_graph);
            each = writable.states;
          }) (are_netlists parts are)

      made_is_for : IsFor start made
      made_is_for = subst (λ (c : CodedGraph). IsFor c made) given_is (is_for_given _ whole.sg l after.before.lineage)

      inserts_are : made.inserts ≡ insertions_of whole.sg.states l
      unfolding circuit_gates.netlist_of
      inserts_are = refl

      certifies : Certifies whole.sg.states start made l
      certifies = subst (λ (c : CodedGraph). Certifies whole.sg.states c made l) given_is
          (built_are_certified whole.sg.states l made after.before.lineage
          (is_built parts are tuples start l after whole.sg.model
          whole.sg.states)
          inserts_are)

      abbrev text : List ℕ
      text = netlist_text made

      read : netlist_of text ≡ made
      read = (reads_back made made_is_netlist).1

      passes : audit [] (sg_text whole.sg) [] text (Ok (audit_text l (netlist_of text)))
      passes =
          let no_fault = (reads_back made made_is_netlist).0 in
          let back : made ≡ netlist_of text = sym read in
          let given = read_back whole.sg writable in
          let fits = subst (λ (n : Netlist). IsFor start n) back made_is_for in
          let certified = subst (λ (n : Netlist). Certifies whole.sg.states start n l) back certifies in
          let can = can_be_audited (sg_text whole.sg) text whole.sg start given no_fault sound fits in
          certified_output [] (sg_text whole.sg) [] text (audit_text l (netlist_of text)) (record {
            given = whole.sg;
            is_given = given;
            no_fault = no_fault;
            coded = start;
            sound = sound;
            is_for = fits;
            lineage = l;
            certifies = certified;
            implements = subst (λ (g : StateGraph). Implements (netlist_of text) g) sound.same_graph
                (certified_implement whole.sg.states start (netlist_of text) l can certified);
            output_is = refl;
          })

      passing_passes : (r : TextRefusal) → passing (sg_text whole.sg) text (Err r) → ⊥
      passing_passes = refused_then (λ (r : TextRefusal). ⊥) (audit [] (sg_text whole.sg) [] text) _
          (λ r refuses. no_refusal {R = TextRefusal} (Err r) (audit_text l (netlist_of text)) r
          (audit_one [] (sg_text whole.sg) [] text (Err r) (Ok (audit_text l (netlist_of text))) refuses passes) refl)
          (λ told is_told r none. no_refusal {R = TextRefusal} (Err r) text r none refl)

-- ---- over texts
module _ (parts : List AuditedPart) (are : AreAudited parts) (some : 0 < length parts) where
  -- joining audited parts is refused for their composed graph, or for an insertion
  joined_refused : (r : TextRefusal) → joined (givens parts) (graphs parts) (netlists parts) (Err r)
      → composed (givens parts) (graphs parts) (Err r) ⊎ IsOfInsertion r
  joined_refused = refused_then Why (composed (givens parts) (graphs parts)) _ (λ r refuses. inl refuses)
      (λ whole is. refused_then Why (proper whole.sg.graph whole.sg.states) _ (λ r improper. absurd
      (never_improper whole is r improper))
      (λ start sound. refused_then Why (with_parts whole.sg.states whole.tuples (given_history start) (givens parts)
      (netlists parts)) _ (λ r refuses. inr (insertions_refused parts are some whole is start sound r refuses))
      (λ l taken r stops. absurd (passing_passes parts are some whole is start sound l taken r stops))))
    where
      Why : TextRefusal → Type 0
      Why r = composed (givens parts) (graphs parts) (Err r) ⊎ IsOfInsertion r

      never_improper : (whole : ComposedSg) → IsComposedSg (givens parts) (graphs parts) whole → (r : TextRefusal)
          → proper whole.sg.graph whole.sg.states (Err r) → ⊥
      never_improper whole is r improper =
          let good = composed_proper (givens parts) (graphs parts) (are_given parts are) (are_sound parts are)
          whole.tuples whole.sg.graph is.0 in
          let codes = some_codes whole.sg.graph is.0.graph is.0.connected good.deterministic good.consistent in
          let sound : IsSound whole.sg.graph codes.0 =
          record { coded_is = codes.2; same_graph = codes.1; proper = good } in
          no_refusal {R = TextRefusal} (Err r) codes.0 r
          (proper_one whole.sg.graph whole.sg.states (Err r) (Ok codes.0) improper sound) refl

  -- the netlist has all gates of its parts
  module _ (netlist : List ℕ) (comes : joined (givens parts) (graphs parts) (netlists parts) (Ok netlist)) where
    abbrev nets : List Netlist
    nets = netlists parts

    -- the netlist n, over these signals, is k parts at their places, joined
    abbrev AreJoinedOver : Netlist → List (List ℕ) → (k : ℕ) → List Signal → Type 0
    AreJoinedOver n places k signals = HasGatesOf k (named_part signals places nets) (to_at places) n
        × IsJoined k (named_part signals places nets) n
        × ((i z : ℕ) (x : Signal) → i < k → slice_get (part_at nets i).signals z ≡ Some x → is_inserted x.kind ≡ false
        → name_of signals (to_at places i z) ≡ x.name)

    abbrev AreJoinedAt : Netlist → List (List ℕ) → Type 0
    AreJoinedAt n places = AreJoinedOver n places (length parts) n.signals

    module _ (whole : ComposedSg) (is : IsComposedSg (givens parts) (graphs parts) whole) (start : CodedGraph)
        (sound : IsSound whole.sg.graph start) (l : History)
        (taken : with_parts whole.sg.states whole.tuples (given_history start) (givens parts) nets (Ok l)) where
      abbrev n : Netlist
      n = made parts are some whole is start sound l taken

      abbrev places : List (List ℕ)
      places = all_places l.current.coded.graph.signals (length l.given.graph.signals) nets

      made_signals : n.signals ≡ l.current.coded.graph.signals
      unfolding circuit_gates.netlist_of
      made_signals = refl

      as_many_nets : length nets ≡ length parts
      as_many_nets = length-map parts (λ p. p.netlist)

      made_joined : AreJoinedAt n places
      made_joined =
          let behind = after parts are some whole is start sound l taken in
          subst₂ (AreJoinedOver n places) as_many_nets (sym made_signals) (
            gates_are parts are whole.tuples start l behind whole.sg.model whole.sg.states,
            joined_are parts are whole.tuples start l behind whole.sg.model whole.sg.states,
            own_names parts are whole.tuples start l behind whole.sg.model whole.sg.states,
          )

      output_joined : netlist ≡ netlist_text n → (tos : List (List ℕ)) × AreJoinedAt (netlist_of netlist) tos
      output_joined same = (
        places,
        subst (λ (k : Netlist). AreJoinedAt k places)
            (sym (ap netlist_of same ∙ read parts are some whole is start sound l taken)) made_joined,
      )

    netlist_joined : (places : List (List ℕ)) × AreJoinedAt (netlist_of netlist) places
    netlist_joined =
        let first = passed (composed (givens parts) (graphs parts)) _ netlist comes in
        let second = passed (proper first.0.sg.graph first.0.sg.states) _ netlist first.2 in
        let third = passed (with_parts first.0.sg.states first.0.tuples (given_history second.0) (givens parts) nets) _
        netlist second.2 in
        let text = netlist_text (made parts are some first.0 first.1 second.0 second.1 third.0 third.1) in
        let last = passed (audit [] (sg_text first.0.sg) [] text) _ netlist third.2 in
        output_joined first.0 first.1 second.0 second.1 third.0 third.1
        (one_value (Ok netlist) netlist text refl last.2)

some_parts : (f t : List ℕ × List ℕ) (fs ts : List (List ℕ × List ℕ)) (parts : List AuditedPart)
    → EachPart (f ∷ fs) (t ∷ ts) parts → 0 < length parts
some_parts f t fs ts parts all =
    let first = passed _ _ parts all in
    let rest = passed (each (λ p. audited_part p.0.0 p.1.0 p.0.1 p.1.1) (zip fs ts)) _ parts first.2 in
    let same : parts ≡ first.0 ∷ rest.0 = one_value (Ok parts) parts (first.0 ∷ rest.0) refl rest.2 in
    subst (λ (ps : List AuditedPart). 0 < length ps) (sym same) (omega arith)

module _ (graph_file netlist_file graph_text netlist_text : List ℕ) (more_files more_texts : List (List ℕ)) where
  abbrev files : List (List ℕ)
  files = graph_file ∷ netlist_file ∷ more_files

  abbrev texts : List (List ℕ)
  texts = graph_text ∷ netlist_text ∷ more_texts

  module _ (parts : List AuditedPart) (is : audited_parts files texts (Ok parts)) where
    are : AreAudited parts
    are = are_audited (two_by_two files) (two_by_two texts) parts is

    some : 0 < length parts
    some = some_parts (graph_file, netlist_file) (graph_text, netlist_text) (two_by_two more_files)
        (two_by_two more_texts) parts is

    uncomposed : (r : TextRefusal) → composed (givens parts) (graphs parts) (Err r)
        → compose (graphs_among files) (graphs_among texts) (Err r)
    uncomposed r refuses = Passes (givens parts) (given_in (two_by_two files) (two_by_two texts) parts is)
        (Passes (graphs parts) (proper_parts parts are) refuses)

    may_refuse : (r : TextRefusal) → joined (givens parts) (graphs parts) (netlists parts) (Err r)
        → MayRefuse files texts r
    may_refuse r refuses = elim (joined_refused parts are some r refuses) [
      | inl composing ↦ inr (inl (uncomposed r composing))
      | inr insertion ↦ inr (inr insertion)
    ]

  pub join_refused : (r : TextRefusal) → join files texts (Err r) → MayRefuse files texts r
  join_refused = refused_then (MayRefuse files texts) (audited_parts files texts) _ (λ r refuses. inl refuses)
      may_refuse

  pub join_is_of_parts : (output : List ℕ) → length more_texts ≡ length more_files → join files texts (Ok output)
      → IsOfParts texts (netlist_of output)
  join_is_of_parts output many comes =
      let first = passed (audited_parts files texts) _ output comes in
      let joined_at = netlist_joined first.0 (are first.0 first.1) (some first.0 first.1) output first.2 in
      record {
        parts = first.0;
        are = parts_are_audited files texts first.0 (ap (λ (k : ℕ). suc (suc k)) many) first.1;
        places = joined_at.0;
        given = joined_at.1.2;
        gates = joined_at.1.0;
        joined = joined_at.1.1;
      }

pub refused_so : JoinsAreRefusedSo
refused_so graph_file netlist_file graph_text netlist_text files texts r =
    join_refused graph_file netlist_file graph_text netlist_text files texts r

pub of_parts : JoinedAreOfParts
of_parts graph_file netlist_file graph_text netlist_text files texts output many =
    join_is_of_parts graph_file netlist_file graph_text netlist_text files texts output many
