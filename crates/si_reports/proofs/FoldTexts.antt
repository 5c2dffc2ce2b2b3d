-- The text of a folded graph gives that graph, and what is right for it is right for the given graph.
use Rattle.std.proofs.Common.{◌≡◌, ◌≢◌, ℕ, ◌<◌, ◌≤◌, false, List, [], length, map, get_or, All, AllPairs}
use Rattle.std.proofs.Common.{refl, sym, ap, subst, ◌∙◌, arith, IsTrue}
use Rattle.std.proofs.lemmas.Bool.{true≢false}
use Rattle.std.proofs.lemmas.List.{get_or-map, length-map}
use Rattle.std.proofs.lemmas.List.Elements.{All-contains, All-map}
use Rattle.std.specs.Ordering.{nat_cmp}
use Rattle.si_base.specs.declared.graph.Edge.{Edge}
use Rattle.si_base.specs.declared.graph.Signal.{Signal}
use Rattle.si_base.specs.declared.graph.SigKind.{SigKind}
use Rattle.si_base.specs.declared.graph.SigKind.TheVariants.{Inserted}
use Rattle.si_base.specs.Codes.{CodedGraph, IsCoded}
use Rattle.si_base.specs.GivenGraph.{Sg}
use Rattle.si_base.specs.Graph.{StateGraph, arc}
use Rattle.si_base.specs.Limits.{max_states_read, max_arcs_read}
use Rattle.si_base.specs.Lines.{numbered}
use Rattle.si_base.specs.System.{is_inserted}
use Rattle.si_base.specs.Words.{IsStateName, is_model_name, is_signal_name}
use Rattle.si_base.proofs.OrderAscending.{nat_less, sorted_at}
use Rattle.si_fold.proofs.FoldedFewerArcs.{fewer_arcs, fewer_numbers, folded_no_larger}
use Rattle.si_fold.proofs.FoldLemmas.{folded_is_coded}
use Rattle.si_fold.proofs.FoldedGraph.{kept_within}
use Rattle.si_graph.proofs.CutLemmas as cut
use Rattle.si_sg.specs.CanonicalText.{IsWritable, sg_text, state_at}
use Rattle.si_sg.specs.GivenGraph.{IsGivenBy, edge_of, signals_in}
use Rattle.si_sg.specs.GraphText.{after_header, header_of, section_of}
use Rattle.si_sg.specs.Header.{no_header, declared}
use Rattle.si_sg.specs.Loops.Reads.{AreSignals, IsWholeSection}
use Rattle.si_sg.proofs.BuildLemmas.{section_read}
use Rattle.si_sg.proofs.GivenApart.{given_apart}
use Rattle.si_sg.proofs.GivenExists.{header_good}
use Rattle.si_sg.proofs.GivenLemmas as given_cut
use Rattle.si_sg.proofs.GivenNames.{given_named}
use Rattle.si_sg.proofs.GivenStates.{given_states}
use Rattle.si_sg.proofs.WholeLaw.{read_back}
use Rattle.si_words.specs.Ends.{after_last}
use Rattle.si_readings.specs.Checks.{IsSound}
use Rattle.si_reports.specs.Fold.{IsFoldedGraph}

-- ---- a given graph is within the limits on what is read
module _ (text : List ℕ) (sg : Sg) (is : IsGivenBy text sg) where
  section : IsWholeSection (length (signals_in (header_of text))) (section_of text)
  section =
      let nothing : AreSignals (declared no_header) = record { apart = tt; few = omega arith } in
      let h = header_of text in
      let header = header_good (after_last text) no_header (numbered text) nothing is.no_fault in
      section_read (after_last text) h (declared h) (signals_in h) (after_header (numbered text)) (section_of text)
      refl refl header.section refl

  abbrev kept : List ℕ
  kept = is.is.given.kept

  places_within : All (λ s. s < length (section_of text).states) kept
  places_within = given_cut.kept_within is.is.whole sg.graph kept (length (section_of text).states)
      is.is.spelled.graph is.is.given.cut is.is.spelled.states_are

  pub given_few_states : sg.graph.states ≤ max_states_read
  given_few_states =
      let cut = is.is.given.cut in
      let few = fewer_numbers kept (length (section_of text).states) cut.in_order places_within in
      omega (arith, cut.count, few, section.section.few_states)

  -- an arc between kept states, by its old and its new ends
  record IsKeptArc (new old : Edge) : Type 0 where
    from_within : new.from < length kept
    to_within : new.to < length kept
    from_is : get_or kept new.from 0 ≡ old.from
    event_is : new.event ≡ old.event
    to_is : get_or kept new.to 0 ≡ old.to

  one_new : (a b old : Edge) → IsKeptArc a old → IsKeptArc b old → a ≡ b
  one_new a b old one other =
      let sorted = is.is.given.cut.in_order in
      let from = cut.one_place kept sorted a.from b.from one.from_within other.from_within
      (one.from_is ∙ sym other.from_is) in
      let event = one.event_is ∙ sym other.event_is in
      let to = cut.one_place kept sorted a.to b.to one.to_within other.to_within (one.to_is ∙ sym other.to_is) in
      λ i. record { from = from i; event = event i; to = to i }

  cut_arcs : length sg.graph.edges ≤ length is.is.whole.edges
  cut_arcs =
      let cut = is.is.given.cut in
      fewer_arcs sg.graph.edges is.is.whole.edges cut.graph.ordered IsKeptArc
      (λ a there. (
      let inside = All-contains (λ (x : Edge). (x.from < sg.graph.states) × (x.event.sig < length sg.graph.signals)
      × (x.to < sg.graph.states)) sg.graph.edges a cut.graph.within there in
      let from : a.from < length kept = omega (arith, inside.0, cut.count) in
      let to : a.to < length kept = omega (arith, inside.2, cut.count) in (
        arc (get_or kept a.from 0) a.event (get_or kept a.to 0),
        (cut.arcs a.from a.event a.to from to).0 there,
        record { from_within = from; to_within = to; from_is = refl; event_is = refl; to_is = refl },
      )))
      one_new

  whole_arcs : length is.is.whole.edges ≤ length (section_of text).arcs
  whole_arcs =
      let arcs = (section_of text).arcs in
      let spelled = is.is.spelled in
      let fewer = fewer_arcs is.is.whole.edges (map edge_of arcs) spelled.graph.ordered (λ a b. a ≡ b)
      (λ a there. (a, (spelled.arcs a).0 there, refl)) (λ a b old one other. one ∙ sym other) in
      omega (arith, fewer, length-map arcs edge_of)

  pub given_few_arcs : length sg.graph.edges ≤ max_arcs_read
  given_few_arcs = omega (arith, cut_arcs, whole_arcs, section.section.few_arcs)

-- ---- a folded graph has a canonical text
module _ (text : List ℕ) (given : Sg) (coded : CodedGraph) (is : IsGivenBy text given)
    (sound : IsSound given.graph coded) (folded : Sg) (f : IsFoldedGraph given.model given.states coded folded) where
  abbrev recoded : CodedGraph
  recoded = record { graph = folded.graph; codes = f.codes }

  abbrev own_name : ℕ → List ℕ
  own_name = state_at given.states

  folded_coded : IsCoded recoded
  folded_coded = folded_is_coded coded recoded f.kept f.class sound.coded_is f.is_folded

  signals_same : folded.graph.signals ≡ given.graph.signals
  signals_same = f.is_folded.signals_stay ∙ ap (λ (g : StateGraph). g.signals) sound.same_graph

  names_within : All (λ s. s < length given.states) f.kept
  names_within k d below =
      let inside = kept_within coded f.kept f.class f.is_folded.classes k d below in
      let states = ap (λ (g : StateGraph). g.states) sound.same_graph in
      omega (arith, inside, states, named_count)
    where
      named_count : length given.states ≡ given.graph.states
      named_count = ap length is.is.given.states_are ∙ length-map is.is.given.kept _ ∙ sym is.is.given.cut.count

  not_inserted : (kind : SigKind) → is_inserted kind ≡ false → kind ≢ Inserted
  not_inserted kind given same = true≢false (sym (ap is_inserted same) ∙ given)

  names_apart : AllPairs (λ (a b : List ℕ). a ≢ b) (map own_name f.kept)
  names_apart i j d before within =
      let second : j < length f.kept = omega (arith, within, length-map f.kept own_name) in
      let first : i < length f.kept = omega (arith, before, second) in
      let less = nat_less _ _ (sorted_at nat_cmp f.kept f.is_folded.classes.in_order i j 0 before second) in
      λ same. given_apart text given is (get_or f.kept i 0) (get_or f.kept j 0) [] less (names_within j 0 second)
      (sym (get_or-map own_name f.kept i 0 d first) ∙ same ∙ get_or-map own_name f.kept j 0 d second)

  pub folded_writable : IsWritable folded
  folded_writable =
      let forms = given_named text given is in
      let smaller = folded_no_larger coded recoded f.kept f.class sound.coded_is f.is_folded in
      let states = ap (λ (g : StateGraph). g.states) sound.same_graph in
      let arcs = ap (λ (g : StateGraph). length g.edges) sound.same_graph in
      let few_states = given_few_states text given is in
      let few_arcs = given_few_arcs text given is in
      record {
        graph = f.is_folded.graph;
        connected = folded_coded.connected;
        model = subst (λ (m : List ℕ). IsTrue (is_model_name m)) (sym f.model_is) forms.model;
        signals = subst (All (λ (x : Signal). IsTrue (is_signal_name x.name))) (sym signals_same) forms.names;
        given = subst (All (λ (x : Signal). x.kind ≢ Inserted)) (sym signals_same)
            (λ k d below. not_inserted (get_or given.graph.signals k d).kind (forms.given k d below));
        states = subst (All IsStateName) (sym f.states_are) (All-map IsStateName own_name f.kept
            (λ k d below. given_states text given is (get_or f.kept k d) [] (names_within k d below)));
        distinct = subst (AllPairs (λ (a b : List ℕ). a ≢ b)) (sym f.states_are) names_apart;
        count = ap (λ (xs : List (List ℕ)). length xs) f.states_are ∙ length-map f.kept own_name
            ∙ sym f.is_folded.count;
        few_states = omega (arith, smaller.states, states, few_states);
        few_edges = omega (arith, smaller.arcs, arcs, few_arcs);
      }

  pub reads_back : IsGivenBy (sg_text folded) folded
  reads_back = read_back folded folded_writable
