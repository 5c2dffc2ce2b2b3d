-- An output is the text of the product of the graphs that the texts give.
use Rattle.std.proofs.Common.{◌≡◌, ◌≢◌, ℕ, zero, suc, ◌<◌, List, [], ◌∷◌, length, map, All, IsTrue, get_or, false, Ok}
use Rattle.std.proofs.Common.{sym, ap, subst, ◌∙◌, inl, inr, arith, true≢false}
use Rattle.std.proofs.lemmas.List.{get_or-map, length-map}
use Rattle.std.proofs.lemmas.Option.{slice_get-get_or, slice_get_within, get_or_from_slice_get}
use Rattle.si_base.specs.declared.graph.Signal.{Signal}
use Rattle.si_base.specs.declared.graph.SigKind.TheVariants.{Input, Inserted}
use Rattle.si_base.specs.GivenGraph.{Sg}
use Rattle.si_base.specs.Graph.{StateGraph}
use Rattle.si_base.specs.System.{is_inserted}
use Rattle.si_base.specs.Words.{is_signal_name, IsStateName}
use Rattle.si_composing.specs.JoinedSignals.{graph_of}
use Rattle.si_composing.proofs.SignalLemmas.{no_other}
use Rattle.si_composing.proofs.TupleLemmas.{ordered_distinct}
use Rattle.si_product.specs.Parts.{product_signals, uncoded}
use Rattle.si_product.specs.Product.{IsProduct}
use Rattle.si_product.proofs.KindLemmas.{kind_of_part}
use Rattle.si_product.proofs.Projections.{parts_walk, product_walks}
use Rattle.si_product.proofs.SignalSteps.{owner}
use Rattle.si_readings.proofs.StageLemmas.{passed}
use Rattle.si_sg.specs.CanonicalText.{IsWritable, sg_text}
use Rattle.si_sg.specs.GivenGraph.{IsGivenBy}
use Rattle.si_sg.proofs.GivenNames.{given_named}
use Rattle.si_sg.proofs.WholeLaw.{read_back}
use Rattle.si_systems.specs.Compose.{graphs_in}
use Rattle.si_systems.specs.Laws.{AreGivenBy}
use Rattle.si_systems.specs.Loops.Parts.{AreGiven}
use Rattle.si_systems.specs.Names.{composed_sg, tuple_name}
use Rattle.si_systems.specs.Product.{TellsProduct, all_deterministic, product}
use Rattle.si_systems.specs.ProductLaws.{IsProductText, graphs_of}
use Rattle.si_systems.proofs.OutputLemmas.{as_given, given_by, many_given}
use Rattle.si_systems.proofs.ProductParts.{all_graphs, are_parts, graph_tuples, same_graphs}
use Rattle.si_systems.proofs.TupleNames.{names_apart, tuple_at}
use Rattle.si_systems.proofs.WritableLemmas.{are_models, model_named, tuple_named}

-- ---- signals
-- the signals of a part are spelled by a text
record IsSpelled (signals : List Signal) : Type 0 where
  names : All (λ x. IsTrue (is_signal_name x.name)) signals
  given : All (λ x. is_inserted x.kind ≡ false) signals

spelled_at : (given : List Sg) → AreGiven given → (i : ℕ) → i < length (uncoded (graphs_of given))
    → IsSpelled (graph_of (uncoded (graphs_of given)) i).signals
spelled_at [] are i below = absurd (omega (arith, below))
spelled_at (g ∷ gs) are zero below =
    let forms = given_named are.0.0 g are.0.1 in record { names = forms.names; given = forms.given }
spelled_at (g ∷ gs) are (suc i) below = spelled_at gs are.1 i (omega (arith, below))

module _ (given : List Sg) (are : AreGiven given) where
  abbrev graphs : List StateGraph
  graphs = graphs_of given

  abbrev signals : List Signal
  signals = product_signals graphs

  signal_named : (k : ℕ) (d : Signal) → k < length signals → IsTrue (is_signal_name (get_or signals k d).name)
  signal_named k d below =
      let from = no_other (uncoded graphs) k below in
      let same = from.3 in
      let own = (graph_of (uncoded graphs) from.0).signals in
      let within = slice_get_within own from.1 same.own same.own_is in
      let spelled = (spelled_at given are from.0 from.2).names from.1 d within in
      let part_is : get_or own from.1 d ≡ same.own = get_or_from_slice_get own from.1 same.own d same.own_is in
      let whole_is : get_or signals k d ≡ same.signal =
      get_or_from_slice_get signals k same.signal d same.signal_is in
      subst (λ (n : List ℕ). IsTrue (is_signal_name n))
      (ap (λ (x : Signal). x.name) part_is ∙ same.name ∙ sym (ap (λ (x : Signal). x.name) whole_is)) spelled

  signal_given : (k : ℕ) (d : Signal) → k < length signals → (get_or signals k d).kind ≢ Inserted
  signal_given k d below inserted = elim (kind_of_part graphs k (get_or signals k d)
      (slice_get-get_or signals k d below)) [
        | inl input ↦ no_input (sym input ∙ inserted)
        | inr found ↦ (
            let y = found.0 in
            let from = owner graphs y found.1 in
            let own = (graph_of (uncoded graphs) from.0).signals in
            let within = slice_get_within own from.1 y from.2.1 in
            let clean = (spelled_at given are from.0 from.2.0).given from.1 y within in
            let part_is : get_or own from.1 y ≡ y = get_or_from_slice_get own from.1 y y from.2.1 in
            true≢false (sym (ap is_inserted (ap (λ (x : Signal). x.kind) part_is ∙ sym found.2 ∙ inserted)) ∙ clean))
      ]
    where
      no_input : Input ≡ Inserted → ⊥
      no_input same = true≢false (sym (ap is_inserted same))

-- ---- the text
module _ (given : List Sg) (are : AreGiven given) (some : 0 < length given) (tuples : List (List ℕ))
    (whole : StateGraph) (is : IsProduct (graphs_of given) tuples whole) where
  state_named : All IsStateName (map (tuple_name given) tuples)
  state_named k d below =
      let each = graph_tuples given are tuples whole is in
      let inside : k < length tuples = omega (arith, below, length-map tuples (tuple_name given)) in
      subst IsStateName (sym (get_or-map (tuple_name given) tuples k [] d inside))
      (tuple_named given (get_or tuples k []) are (tuple_at given tuples k [] each inside) some)

  writable : IsWritable (composed_sg given tuples whole)
  writable = record {
    graph = is.made.graph;
    connected = is.connected;
    model = model_named given (are_models given are) some;
    signals = λ k d below. (
        let same : whole.signals ≡ product_signals (graphs_of given) = is.made.signals in
        subst (λ (ws : List Signal). IsTrue (is_signal_name (get_or ws k d).name)) (sym same)
        (signal_named given are k d (subst (λ (ws : List Signal). k < length ws) same below)));
    given = λ k d below. (
        let same : whole.signals ≡ product_signals (graphs_of given) = is.made.signals in
        subst (λ (ws : List Signal). (get_or ws k d).kind ≢ Inserted) (sym same)
        (signal_given given are k d (subst (λ (ws : List Signal). k < length ws) same below)));
    states = state_named;
    distinct = names_apart given tuples are (graph_tuples given are tuples whole is)
        (ordered_distinct tuples is.reached.in_order);
    count = length-map tuples (tuple_name given) ∙ sym is.made.states;
    few_states = is.made.graph.few_states;
    few_edges = is.made.few_arcs;
  }

  reads_back : IsGivenBy (sg_text (composed_sg given tuples whole)) (composed_sg given tuples whole)
  reads_back = read_back (composed_sg given tuples whole) writable

product_text : (texts : List (List ℕ)) (given : List Sg) (parts : List StateGraph) (output : List ℕ)
    → AreGivenBy texts given → 0 < length given → parts ≡ graphs_of given → TellsProduct given parts output
    → IsProductText texts output
product_text texts given parts output are some same told =
    let known = as_given texts given are in
    let is = subst (λ (ps : List StateGraph). IsProduct ps told.tuples told.whole) same told.is_product in
    record {
      given = given;
      given_are = are;
      tuples = told.tuples;
      whole = told.whole;
      is_product = is;
      reads_back = subst (λ (text : List ℕ). IsGivenBy text (composed_sg given told.tuples told.whole))
          (sym told.output_is) (reads_back given known some told.tuples told.whole is);
      walks = λ es. (
        λ walked. parts_walk (graphs_of given) told.tuples told.whole (all_graphs given known) is es walked,
        λ each. product_walks (graphs_of given) told.tuples told.whole (all_graphs given known) is es each,
      );
    }

pub output_serves : (files texts : List (List ℕ)) (output : List ℕ) → length texts ≡ length files → 0 < length files
    → product files texts (Ok output) → IsProductText texts output
output_serves files texts output many some comes =
    let read = passed (graphs_in files texts) _ output comes in
    let of = passed (all_deterministic read.0) _ output read.2 in
    let are = given_by files texts read.0 many read.1 in
    product_text texts read.0 of.0 output are (omega (arith, many, some, many_given texts read.0 are))
    (same_graphs read.0 of.0 (are_parts read.0 of.0 of.1)) of.2
