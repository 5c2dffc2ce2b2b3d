-- Lineages of netlists that are suggested: they are those of the given graph, and are told once more by the netlists.
use Rattle.std.proofs.Common.{◌≡◌, ◌≢◌, ℕ, List, AllPairs, length, refl, sym, ap, subst, ◌∙◌}
use Rattle.si_audit.proofs.AuditBuiltLineages.{built_are_certified}
use Rattle.si_audit.proofs.OneCertificate.{one_lineage}
use Rattle.si_audit.specs.Audit.{TakesAll}
use Rattle.si_audit.specs.Laws.{CanBeAudited}
use Rattle.si_base.specs.Codes.{CodedGraph}
use Rattle.si_base.specs.GivenGraph.{Sg}
use Rattle.si_base.specs.Graph.{StateGraph}
use Rattle.si_base.specs.Netlist.{Netlist}
use Rattle.si_base.specs.Proper.{IsProper}
use Rattle.si_base.specs.System.{IsFor}
use Rattle.si_base.specs.WellFormed.{IsNetlist}
use Rattle.si_circuit.specs.Circuits.{AreStateNames, LineageNetlist, circuit_of}
use Rattle.si_circuit.specs.Gates.{netlist_of}
use Rattle.si_circuit.specs.Spelling.{insertions_of}
use Rattle.si_circuit.specs.declared.style.Style.{Style}
use Rattle.si_circuit.specs.declared.style.Style.TheVariants.{Complex}
use Rattle.si_insert.specs.Lineage.{History, given_history}
use Rattle.si_readings.specs.Checks.{IsSound}
use Rattle.si_refusals.specs.Ending.{Answered, Ending, MayStop}
use Rattle.si_refusals.specs.Ending as ending
use Rattle.si_refusals.specs.Refusal.{TextRefused}
use Rattle.si_sg.specs.GivenGraph.{IsGivenBy}
use Rattle.si_stages.proofs.GivenLineages.{IsGivenLineage, given_spelled, given_state_names}
use Rattle.si_suggestion.specs.Suggested.{IsSuggestedLineage, suggested_lineage}
use Rattle.si_suggestion.specs.Suggestion.{IsItsCircuit, IsSuggestion, suggestion}

-- the netlist of a lineage has the signals of its current graph, and its insertions
module _ (style : Style) (model : List ℕ) (states : List (List ℕ)) (l : History) where
  its_signals : (circuit_of style model states l).signals ≡ l.current.coded.graph.signals
  unfolding netlist_of
  its_signals = refl

  its_insertions : (circuit_of style model states l).inserts ≡ insertions_of states l
  unfolding netlist_of
  its_insertions = refl

-- ---- over the graph that a text gives
module _ (style : Style) (text : List ℕ) (sg : Sg) (coded : CodedGraph) (output : List ℕ)
    (given : IsGivenBy text sg) (sound : IsSound sg.graph coded)
    (is : IsSuggestion style sg.model sg.states coded output) where
  pub graph_stays : is.lineage.given.graph ≡ sg.graph
  graph_stays = ap (λ (c : CodedGraph). c.graph) is.given_is ∙ sound.same_graph

  pub suggested_given : IsGivenLineage sg is.lineage
  suggested_given =
      let l = is.lineage in
      let signals : is.netlist.signals ≡ l.current.coded.graph.signals =
      ap (λ (n : Netlist). n.signals) is.gates_are ∙ its_signals style sg.model sg.states l in
      record {
        line = is.line;
        graph_is = graph_stays;
        spelled = record {
          model_name = (given_spelled text sg given).model_name;
          names = rw signals at is.is_netlist.names;
        };
        names = subst (λ (g : StateGraph). AreStateNames g sg.states) (sym graph_stays)
            (given_state_names text sg given);
      }

-- ---- its netlist tells the lineage
module _ (style : Style) (model : List ℕ) (states : List (List ℕ)) (coded : CodedGraph) (output : List ℕ)
    (is : IsSuggestion style model states coded output) where
  pub inserts_are : is.netlist.inserts ≡ insertions_of states is.lineage
  inserts_are = ap (λ (n : Netlist). n.inserts) is.gates_are ∙ its_insertions style model states is.lineage

  pub is_taken : TakesAll states (given_history coded) is.netlist.inserts is.lineage
  is_taken =
      let l = is.lineage in
      subst (λ (c : CodedGraph). TakesAll states (given_history c) is.netlist.inserts l) is.given_is
      (built_are_certified states l is.netlist is.line is.circuit.built inserts_are).taken

module _ (graph : StateGraph) (states : List (List ℕ)) (coded : CodedGraph) (sound : IsSound graph coded)
    (count : length states ≡ coded.graph.states) (apart : AllPairs (λ x y. x ≢ y) states)
    (x : LineageNetlist) (model : List ℕ) (is : IsItsCircuit Complex model states coded x) where
  can : CanBeAudited states coded x.netlist
  can = record {
    coded = sound.coded_is;
    proper = subst IsProper (sym sound.same_graph) sound.proper;
    count = count;
    apart = apart;
    netlist = subst (λ (n : Netlist). IsNetlist n) is.netlist_is is.suggestion.is_netlist;
    fits = subst (λ (n : Netlist). IsFor coded n) is.netlist_is is.suggestion.is_for;
  }

  taken : TakesAll states (given_history coded) x.netlist.inserts x.lineage
  taken =
      let own = is_taken Complex model states coded _ is.suggestion in
      rw (is.netlist_is, is.lineage_is) at own

  pub told_again : (l : History) → TakesAll states (given_history coded) x.netlist.inserts l → l ≡ x.lineage
  told_again l takes = one_lineage states coded x.netlist can l x.lineage takes taken

-- ---- where a call may stop
pub lineage_stop : (model : List ℕ) (states : List (List ℕ)) (coded : CodedGraph) (e : Ending)
    → MayStop (suggestion Complex model states coded) e → MayStop (suggested_lineage model states coded) e
lineage_stop model states coded ending.NoMemory may = tt
lineage_stop model states coded (Answered (TextRefused r)) may = may
lineage_stop model states coded e may = absurd may

-- ---- the lineage that is mapped further
module _ (text : List ℕ) (sg : Sg) (coded : CodedGraph) (x : LineageNetlist) (given : IsGivenBy text sg)
    (sound : IsSound sg.graph coded) (is : IsItsCircuit Complex sg.model sg.states coded x) (l : History)
    (same : l ≡ x.lineage) where
  pub its_lineage : IsGivenLineage sg l
  its_lineage =
      subst (IsGivenLineage sg) (is.lineage_is ∙ sym same)
      (suggested_given Complex text sg coded _ given sound is.suggestion)

module _ (sg : Sg) (coded : CodedGraph) (x : LineageNetlist) (is : IsItsCircuit Complex sg.model sg.states coded x)
    (l : History) (same : l ≡ x.lineage) where
  pub its_suggested : IsSuggestedLineage sg.model sg.states coded l
  its_suggested = record { output = _; suggestion = is.suggestion; lineage_is = is.lineage_is ∙ sym same }
