-- The netlist of a lineage has the signals and the start of the given graph, and a suggested one is told so.
use Rattle.std.proofs.Common.{◌≡◌, ℕ, ◌<◌, length, List, [], ◌∷◌, ◌++◌, false, not, filter, refl, ap, ap₂, subst, sym, ◌∙◌, suc}
use Rattle.std.specs.List.{slice_index_or}
use Rattle.std.proofs.lemmas.List.{append-nil, length-map}
use Rattle.std.proofs.lemmas.List.Elements.{filter-append}
use Rattle.std.proofs.lemmas.Option.{slice_get_within, get_or_from_slice_get}
use Rattle.si_base.specs.declared.graph.Signal.{Signal}
use Rattle.si_base.specs.Bits.{bit}
use Rattle.si_base.specs.Codes.{CodedGraph, code}
use Rattle.si_base.specs.GivenGraph.{Sg}
use Rattle.si_base.specs.Netlist.{Netlist}
use Rattle.si_base.specs.System.{is_inserted, IsFor}
use Rattle.si_base.specs.NetlistText.{netlist_text}
use Rattle.si_circuit.specs.Circuits.{AreStateNames, IsCircuit, LineageNetlist, circuit_of}
use Rattle.si_circuit.specs.Covered.{HasPrimeGates}
use Rattle.si_circuit.specs.Gates.{netlist_of}
use Rattle.si_circuit.specs.Spelled.{AreSpelled}
use Rattle.si_circuit.specs.Spelling.{insertions_of}
use Rattle.si_circuit.specs.declared.style.Style.{Style}
use Rattle.si_circuit.proofs.CoveredGates.{chosen_are_prime}
use Rattle.si_circuit.proofs.SpelledInsertions.{new_signals, signals_grow}
use Rattle.si_insert.specs.declared.lineage.TraceStep.{TraceStep}
use Rattle.si_insert.specs.Lineage.{AllGiven, History, IsLineage, given_current}
use Rattle.si_insert.proofs.InsertionKeeps.{keeps}
use Rattle.si_sg.specs.GivenGraph.{IsGivenBy}
use Rattle.si_sg.specs.GraphText.{section_of}
use Rattle.si_sg.proofs.GivenNames.{given_named}
use Rattle.si_sg.proofs.GivenStates.{given_states}
use Rattle.si_suggest.specs.Suggested.{IsOffered, IsSuggested}
use Rattle.si_suggestion.specs.Suggestion.{IsItsCircuit, IsSuggestion}

-- ---- the signals that aren't inserted
none_kept : (trace : List TraceStep) → filter (λ x. not (is_inserted x.kind)) (new_signals trace) ≡ []
none_kept [] = refl
none_kept (p ∷ trace) = none_kept trace

given_kept : (xs : List Signal) (trace : List TraceStep) → filter (λ x. not (is_inserted x.kind)) xs ≡ xs
    → filter (λ x. not (is_inserted x.kind)) (xs ++ new_signals trace) ≡ xs
given_kept xs trace all =
    let kept = filter (λ (x : Signal). not (is_inserted x.kind)) in
    filter-append (λ (x : Signal). not (is_inserted x.kind)) xs (new_signals trace)
    ∙ ap₂ (λ (a b : List Signal). a ++ b) all (none_kept trace) ∙ append-nil xs

all_kept : (xs : List Signal) → AllGiven xs → filter (λ x. not (is_inserted x.kind)) xs ≡ xs
all_kept [] none = refl
all_kept (x ∷ xs) none =
    let head : is_inserted x.kind ≡ false = none 0 x refl in
    rw head (ap (λ (ys : List Signal). x ∷ ys) (all_kept xs (λ z. none (suc z))))

module _ (style : Style) (model : List ℕ) (states : List (List ℕ)) (l : History) where
  pub is_for_given : IsLineage l.given l.trace l.current → IsFor l.given (circuit_of style model states l)
  unfolding netlist_of
  is_for_given line =
      let c = l.given in
      let kept = keeps c l.trace l.current line in
      let v = l.current in
      let first = v.coded.graph.start in
      let there : first < v.coded.graph.states = kept.coded.graph_is.starts in
      record {
        signals = ap (filter (λ (x : Signal). not (is_inserted x.kind)))
            (signals_grow (given_current c) l.trace v line.grown)
            ∙ given_kept c.graph.signals l.trace (all_kept c.graph.signals line.none_inserted);
        values = λ a within. kept.values first a there within
            ∙ ap (λ (s : ℕ). bit (code c s) a) kept.start;
      }

  pub has_model : (circuit_of style model states l).model ≡ model
  unfolding netlist_of
  has_model = refl

  -- of what is offered
  module _ (given : CodedGraph) (n : Netlist) (line : IsLineage l.given l.trace l.current)
      (offered : IsOffered given style model states (record { lineage = l; netlist = n })) where
    pub offered_is_for : IsFor given n
    offered_is_for =
        subst (λ (m : Netlist). IsFor given m) (sym offered.netlist_is)
        (subst (λ (c : CodedGraph). IsFor c (circuit_of style model states l)) offered.given_is (is_for_given line))

    pub offered_model : n.model ≡ model
    offered_model = ap (λ (m : Netlist). m.model) offered.netlist_is ∙ has_model

    pub offered_is_prime : HasPrimeGates l.current.coded n
    offered_is_prime =
        let coded = (keeps l.given l.trace l.current line).coded in
        subst (λ (m : Netlist). HasPrimeGates l.current.coded m) (sym offered.netlist_is)
        (chosen_are_prime style l.current.coded model (insertions_of states l) coded offered.free)

-- ---- the given graph
pub given_signals : (text : List ℕ) (sg : Sg) → IsGivenBy text sg → AllGiven sg.graph.signals
given_signals text sg is z x here =
    let given = (given_named text sg is).given z x (slice_get_within sg.graph.signals z x here) in
    subst (λ (y : Signal). is_inserted y.kind ≡ false) (get_or_from_slice_get sg.graph.signals z x x here) given

pub given_spelled : (text : List ℕ) (sg : Sg) → IsGivenBy text sg → AreSpelled sg.model sg.graph.signals
given_spelled text sg is = let forms = given_named text sg is in
    record { model_name = forms.model; names = forms.names }

pub given_state_names : (text : List ℕ) (sg : Sg) → IsGivenBy text sg → AreStateNames sg.graph sg.states
given_state_names text sg is =
    let f : ℕ → List ℕ = λ s. slice_index_or (section_of text).states s [] in
    let kept = is.is.given.kept in
    record {
      count = ap length is.is.given.states_are ∙ length-map kept f ∙ sym is.is.given.cut.count;
      each = given_states text sg is;
    }

-- ---- what is told of a suggestion
pub told : (style : Style) (model : List ℕ) (states : List (List ℕ)) (given : CodedGraph) (x : LineageNetlist)
    (output : List ℕ) → IsLineage x.lineage.given x.lineage.trace x.lineage.current → IsCircuit x.lineage x.netlist
    → IsSuggested given style model states x → output ≡ netlist_text x.netlist
    → IsSuggestion style model states given output
told style model states given x output line circuit suggested output_is =
    let offer = suggested.offered in
    record {
      lineage = x.lineage;
      given_is = offer.given_is;
      line = line;
      free = offer.free;
      netlist = x.netlist;
      is_netlist = offer.is_netlist;
      output_is = output_is;
      model_is = offered_model style model states x.lineage given x.netlist line offer;
      gates_are = offer.netlist_is;
      prime = offered_is_prime style model states x.lineage given x.netlist line offer;
      is_for = offered_is_for style model states x.lineage given x.netlist line offer;
      circuit = circuit;
      implements = offer.implements;
      light = suggested.light;
    }

-- so the circuit is that of a suggestion
pub its_circuit : (style : Style) (model : List ℕ) (states : List (List ℕ)) (given : CodedGraph) (x : LineageNetlist)
    → IsLineage x.lineage.given x.lineage.trace x.lineage.current → IsCircuit x.lineage x.netlist
    → IsSuggested given style model states x → IsItsCircuit style model states given x
unfolding told
its_circuit style model states given x line circuit suggested = record {
  suggestion = told style model states given x (netlist_text x.netlist) line circuit suggested refl;
  lineage_is = refl;
  netlist_is = refl;
}
