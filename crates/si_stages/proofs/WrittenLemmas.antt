-- A netlist of gates that give the next values of a lineage's current graph is written for the given graph.
use Rattle.std.proofs.Common.{◌≡◌, ℕ, ◌<◌, List, [], ◌∷◌, false, not, filter, refl, ap, subst, ◌∙◌, suc}
use Rattle.si_base.specs.declared.graph.Signal.{Signal}
use Rattle.si_base.specs.Behaviour.{Implements}
use Rattle.si_base.specs.Bits.{bit}
use Rattle.si_base.specs.Codes.{code}
use Rattle.si_base.specs.GivenGraph.{Sg}
use Rattle.si_base.specs.Graph.{StateGraph}
use Rattle.si_base.specs.Netlist.{Gate, Netlist}
use Rattle.si_base.specs.NetlistText.{netlist_text}
use Rattle.si_base.specs.RightGates.{GivesNextValues}
use Rattle.si_base.specs.System.{is_inserted, IsFor}
use Rattle.si_base.specs.WellFormed.{IsNetlist}
use Rattle.si_circuit.specs.Circuits.{IsCircuit}
use Rattle.si_circuit.specs.Gates.{netlist_of}
use Rattle.si_circuit.specs.Spelled.{AreInserted}
use Rattle.si_circuit.specs.Spelling.{insertions_from, insertions_of, given_descents}
use Rattle.si_circuit.proofs.CircuitLemmas.{gates_circuit}
use Rattle.si_circuit.proofs.SpelledInsertions.{are_inserted, signals_grow}
use Rattle.si_insert.specs.Lineage.{AllGiven, History, IsLineage, given_current}
use Rattle.si_insert.proofs.InsertionKeeps.{keeps}
use Rattle.si_stages.specs.Written.{IsWritten}
use Rattle.si_stages.proofs.GivenLineages.{IsGivenLineage}
use Rattle.si_stages.proofs.ResolvingLemmas.{given_kept}

all_kept : (xs : List Signal) → AllGiven xs → filter (λ x. not (is_inserted x.kind)) xs ≡ xs
all_kept [] none = refl
all_kept (x ∷ xs) none =
    let head : is_inserted x.kind ≡ false = none 0 x refl in
    rw head (ap (λ (ys : List Signal). x ∷ ys) (all_kept xs (λ z. none (suc z))))

-- the netlist of any gates for the current graph, with the insertions of the trace
module _ (gate : ℕ → Gate) (sg : Sg) (l : History) where
  abbrev pub lineage_netlist : Netlist
  lineage_netlist = netlist_of gate sg.model (insertions_of sg.states l) l.current.coded

  -- it has the model, the signals and the start of the given graph
  pub has_model : lineage_netlist.model ≡ sg.model
  unfolding netlist_of
  has_model = refl

  -- and the insertions of the trace
  pub has_insertions : lineage_netlist.inserts ≡ insertions_of sg.states l
  unfolding netlist_of
  has_insertions = refl

  pub is_for_given : IsLineage l.given l.trace l.current → IsFor l.given lineage_netlist
  unfolding netlist_of
  is_for_given line =
      let c = l.given in
      let kept = keeps c l.trace l.current line in
      let v = l.current in
      let first = v.coded.graph.start in
      let there : first < v.coded.graph.states = kept.coded.graph_is.starts in
      record {
        signals = ap (filter (λ (x : Signal). not (is_inserted x.kind)))
            (signals_grow (given_current c) l.trace v line.grown)
            ∙ given_kept c.graph.signals l.trace (all_kept c.graph.signals line.none_inserted);
        values = λ a within. kept.values first a there within
            ∙ ap (λ (s : ℕ). bit (code c s) a) kept.start;
      }

  pub no_insertion : l.trace ≡ [] → lineage_netlist.inserts ≡ []
  unfolding netlist_of insertions_of
  no_insertion none = ap (insertions_from sg.states 0 (given_descents l.given.graph.states)) none

  abbrev pub is_written : (text : List ℕ) → IsGivenLineage sg l → GivesNextValues l.current.coded lineage_netlist
      → (AreInserted (insertions_of sg.states l) l.current.coded.graph.signals → IsNetlist lineage_netlist)
      → text ≡ netlist_text lineage_netlist → IsWritten sg l text
  is_written text is gives forms text_is =
      let Meets : StateGraph → Type 0 = λ g. Implements lineage_netlist g in
      let circuit : IsCircuit l lineage_netlist = gates_circuit gate sg.model sg.states l is.line gives in
      record {
        netlist = lineage_netlist;
        is_netlist = forms (are_inserted sg.states l is.line is.names);
        text_is = text_is;
        model_is = has_model;
        graph_is = is.graph_is;
        is_for = is_for_given is.line;
        implements = subst Meets is.graph_is circuit.implements;
        circuit = circuit;
      }
