-- The text of a current graph is read back as that graph.
use Rattle.std.proofs.Common.{◌≡◌, ◌≢◌, ℕ, List, get_or, IsTrue, ap, ap₂, subst, sym, ◌∙◌}
use Rattle.std.proofs.lemmas.List.Elements.{All-map}
use Rattle.std.proofs.lemmas.List.FromFn.{length-map-range_with_len}
use Rattle.si_base.specs.declared.graph.Signal.{Signal}
use Rattle.si_base.specs.declared.graph.SigKind.TheVariants.{Inserted}
use Rattle.si_base.specs.GivenGraph.{Sg}
use Rattle.si_base.specs.Graph.{StateGraph}
use Rattle.si_base.specs.Words.{is_signal_name}
use Rattle.si_insert.proofs.InsertionKeeps.{keeps}
use Rattle.si_insert.specs.Lineage.{History}
use Rattle.si_inserted.proofs.InternalGraphLemmas.{internal_is_coded, none_inserted}
use Rattle.si_inserted.proofs.NameLemmas.{all_apart, all_names}
use Rattle.si_inserted.specs.Current.{current_name, current_names, current_sg, given_signal, internal_graph}
use Rattle.si_inserted.specs.Laws.{CanBeGiven, CurrentTextsReadBack}
use Rattle.si_sg.proofs.WholeLaw.{read_back}
use Rattle.si_sg.specs.CanonicalText.{IsWritable, sg_text}
use Rattle.si_sg.specs.GivenGraph.{IsGivenBy}

pub can_be_written : (model : List ℕ) (states : List (List ℕ)) (l : History) → CanBeGiven model states l
    → IsWritable (current_sg model states l)
can_be_written model states l can =
    let kept = keeps l.given l.trace l.current can.line in
    let coded = internal_is_coded l.current.coded kept.coded in
    let signals = l.current.coded.graph.signals in
    record {
      graph = coded.graph_is;
      connected = coded.connected;
      model = can.spelled.model_name;
      signals = All-map (λ (x : Signal). IsTrue (is_signal_name x.name)) given_signal signals can.spelled.names;
      given = All-map (λ (x : Signal). x.kind ≢ Inserted) given_signal signals
          (λ k d below. none_inserted (get_or signals k d).kind);
      states = all_names states l can.names can.line;
      distinct = all_apart states l can.names can.line can.apart;
      count = length-map-range_with_len (current_name states l) 0 l.current.coded.graph.states;
      few_states = kept.coded.graph_is.few_states;
      few_edges = can.few_arcs;
    }

pub texts_read_back : CurrentTextsReadBack
texts_read_back model states l can = read_back (current_sg model states l) (can_be_written model states l can)

-- the text of a graph of these parts
pub text_back : (model : List ℕ) (states : List (List ℕ)) (l : History) (name : List ℕ) (graph : StateGraph)
    (names : List (List ℕ)) → name ≡ model → graph ≡ internal_graph l.current.coded.graph
    → names ≡ current_names states l → CanBeGiven model states l → (text : List ℕ)
    → text ≡ sg_text (record { model = name; graph = graph; states = names })
    → IsGivenBy text (current_sg model states l)
text_back model states l name graph names model_is graph_is names_are can text text_is =
    let made : List ℕ → StateGraph → List (List ℕ) → Sg = λ m g n. record { model = m; graph = g; states = n } in
    let same : made name graph names ≡ current_sg model states l =
    ap (λ (m : List ℕ). made m graph names) model_is ∙ ap₂ (made model) graph_is names_are in
    subst (λ (t : List ℕ). IsGivenBy t (current_sg model states l)) (sym (text_is ∙ ap sg_text same))
    (texts_read_back model states l can)
