-- Lineages of the graph that a text gives: they start at it, and their names are spelled as texts spell them.
use Rattle.std.proofs.Common.{◌≡◌, ℕ, List, [], length, false, sym, ap, subst, ◌∙◌}
use Rattle.std.specs.List.{slice_index_or}
use Rattle.std.proofs.lemmas.List.{length-map}
use Rattle.std.proofs.lemmas.Option.{slice_get_within, get_or_from_slice_get}
use Rattle.si_base.specs.declared.graph.Signal.{Signal}
use Rattle.si_base.specs.GivenGraph.{Sg}
use Rattle.si_base.specs.Graph.{StateGraph}
use Rattle.si_base.specs.Proper.{IsProper}
use Rattle.si_base.specs.System.{is_inserted}
use Rattle.si_circuit.specs.Circuits.{AreStateNames}
use Rattle.si_circuit.specs.Spelled.{AreSpelled}
use Rattle.si_insert.specs.Lineage.{AllGiven, History, IsLineage, given_current}
use Rattle.si_sg.proofs.GivenNames.{given_named}
use Rattle.si_sg.proofs.GivenStates.{given_states}
use Rattle.si_sg.specs.GivenGraph.{IsGivenBy}
use Rattle.si_sg.specs.GraphText.{section_of}
use Rattle.si_stages.proofs.ResolutionLemmas.{IsResolution}
use Rattle.si_stages.proofs.ResolvingLemmas.{named_along, resolved_lineage}

-- ---- the given graph
pub given_signals : (text : List ℕ) (sg : Sg) → IsGivenBy text sg → AllGiven sg.graph.signals
given_signals text sg is z x here =
    let given = (given_named text sg is).given z x (slice_get_within sg.graph.signals z x here) in
    subst (λ (y : Signal). is_inserted y.kind ≡ false) (get_or_from_slice_get sg.graph.signals z x x here) given

-- what a text gives is spelled so
pub given_spelled : (text : List ℕ) (sg : Sg) → IsGivenBy text sg → AreSpelled sg.model sg.graph.signals
given_spelled text sg is = let forms = given_named text sg is in
    record { model_name = forms.model; names = forms.names }

-- its states have names
pub given_state_names : (text : List ℕ) (sg : Sg) → IsGivenBy text sg → AreStateNames sg.graph sg.states
given_state_names text sg is =
    let f : ℕ → List ℕ = λ s. slice_index_or (section_of text).states s [] in
    let kept = is.is.given.kept in
    record {
      count = ap length is.is.given.states_are ∙ length-map kept f ∙ sym is.is.given.cut.count;
      each = given_states text sg is;
    }

-- ---- its lineages
pub record IsGivenLineage (sg : Sg) (l : History) : Type 0 where
  pub line : IsLineage l.given l.trace l.current
  pub graph_is : l.given.graph ≡ sg.graph
  pub spelled : AreSpelled sg.model l.current.coded.graph.signals
  pub names : AreStateNames l.given.graph sg.states

pub given_lineage : (text : List ℕ) (sg : Sg) (l : History) → IsGivenBy text sg → IsResolution sg.graph l
    → IsGivenLineage sg l
given_lineage text sg l given is =
    let back : sg.graph ≡ l.given.graph = sym is.sound.same_graph in
    let Clean : StateGraph → Type 0 = λ g. AllGiven g.signals in
    let Fine : StateGraph → Type 0 = λ g. IsProper g in
    let Named : StateGraph → Type 0 = λ g. AreStateNames g sg.states in
    let Spelled : StateGraph → Type 0 = λ g. AreSpelled sg.model g.signals in
    let spelled : AreSpelled sg.model l.given.graph.signals = subst Spelled back (given_spelled text sg given) in
    record {
      line = resolved_lineage l.given l.trace l.current is.sound.coded_is (subst Fine back is.sound.proper)
          (subst Clean back (given_signals text sg given)) is.resolves.goes;
      graph_is = is.sound.same_graph;
      spelled = record {
        model_name = spelled.model_name;
        names = named_along (given_current l.given) l.trace l.current is.resolves.goes spelled.names;
      };
      names = subst Named back (given_state_names text sg given);
    }
