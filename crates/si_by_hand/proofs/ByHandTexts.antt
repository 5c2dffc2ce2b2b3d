-- The text of a graph after the insertion of a signal by its gate: it comes to one answer, and is read back.
use Rattle.std.proofs.Common.{◌≡◌, ℕ, ◌∙◌, List, [], ◌∷◌, IsTrue, refl, sym, subst, subst₂}
use Rattle.si_audit.proofs.OneAudit.{same_history}
use Rattle.si_base.specs.Codes.{CodedGraph, IsCoded}
use Rattle.si_base.specs.GivenGraph.{Sg}
use Rattle.si_base.specs.Graph.{StateGraph, names_in}
use Rattle.si_base.specs.Proper.{IsProper}
use Rattle.si_base.specs.Words.{is_signal_name}
use Rattle.si_circuit.specs.Circuits.{AreStateNames}
use Rattle.si_circuit.specs.Spelled.{AreSpelled}
use Rattle.si_insert.proofs.InsertionsExist.{some_next}
use Rattle.si_insert.proofs.LineageTraceLength.{named_after}
use Rattle.si_insert.proofs.OneInsertion.{lineage_on, one_insertion}
use Rattle.si_insert.specs.Accepted.{IsAccepted}
use Rattle.si_insert.specs.Fresh.{IsTaken}
use Rattle.si_insert.specs.Lineage.{AllGiven, Extends, History, IsLineage, given_current, given_history}
use Rattle.si_insert.specs.declared.lineage.TraceStep.{TraceStep}
use Rattle.si_insert.specs.declared.partition.Class.{Class}
use Rattle.si_inserted.proofs.CurrentTexts.{texts_read_back}
use Rattle.si_inserted.specs.Current.{current_sg}
use Rattle.si_inserted.specs.Laws.{CanBeGiven}
use Rattle.si_readings.proofs.CheckLemmas.{proper_one}
use Rattle.si_readings.proofs.ReadingsExist.{proper_some}
use Rattle.si_readings.proofs.StageLemmas.{gives_one, gives_some, passed, shows_one, shows_some, then_one, then_some}
use Rattle.si_readings.specs.Checks.{IsSound}
use Rattle.si_readings.specs.Laws.{AtMostOne, HasResult}
use Rattle.si_sg.proofs.GivenApart.{given_apart}
use Rattle.si_sg.specs.CanonicalText.{sg_text}
use Rattle.si_sg.specs.GivenGraph.{IsGivenBy}
use Rattle.si_stages.proofs.GivenLineages.{given_signals, given_spelled, given_state_names}
use Rattle.si_stages.specs.InsertedLaws.{HasFewArcs}
use Rattle.si_by_hand.proofs.GateLineLemmas.{new_read}
use Rattle.si_by_hand.proofs.HandReadingLemmas.{AreHandReadings, hand_readings_are, hand_readings_one}
use Rattle.si_by_hand.proofs.HandReadingLemmas.{hand_readings_some}
use Rattle.si_by_hand.proofs.OwnValues.{gates_make}
use Rattle.si_by_hand.proofs.PartitionStages.{partition_for_one, partition_for_some}
use Rattle.si_by_hand.specs.ByHand.{by_hand, lineage_with, step_of, text_with_gate}
use Rattle.si_by_hand.specs.GateText.{NewGate}
use Rattle.si_by_hand.specs.HandReadings.{HandReadings}
use Rattle.si_by_hand.specs.Laws.{OutputsAreMadeByHand}
use Rattle.si_by_hand.specs.Loops.NewNames.{IsNewName}

-- ---- one insertion
one_extension : (l m n : History) (p : TraceStep) → Extends l p m → Extends l p n → m ≡ n
one_extension l m n p a b =
    same_history m n (a.given_stays ∙ sym b.given_stays) (a.trace_grows ∙ sym b.trace_grows)
    (one_insertion l.current p m.current n.current a.inserts b.inserts)

lineage_with_one : (c : CodedGraph) (name : List ℕ) (classes : List Class) → AtMostOne (lineage_with c name classes)
lineage_with_one c name classes = shows_one (Extends (given_history c) (step_of name classes))
    (λ l m one other. one_extension (given_history c) l m (step_of name classes) one other)

lineage_with_some : (c : CodedGraph) (name : List ℕ) (classes : List Class) → IsCoded c → IsAccepted c.graph classes
    → (IsTaken c.graph.signals name → ⊥) → HasResult (lineage_with c name classes)
lineage_with_some c name classes is accepted free =
    let step : TraceStep = step_of name classes in
    let next = some_next (given_current c) step is accepted free in
    let m : History = record { given = c; trace = step ∷ []; current = next.0 } in
    let extends : Extends (given_history c) step m =
    record { given_stays = refl; trace_grows = refl; inserts = next.1.inserts } in
    shows_some (Extends (given_history c) step) (m, extends)

-- ---- over a proper graph
text_one : (model : List ℕ) (states : List (List ℕ)) (c : CodedGraph) (made : NewGate) → IsCoded c → IsProper c.graph
    → AtMostOne (text_with_gate model states c made)
text_one model states c made is proper = then_one _ _ (partition_for_one states c made is proper)
    (λ classes ok. then_one _ _ (lineage_with_one c made.name classes)
    (λ l extends. gives_one (sg_text (current_sg model states l))))

text_some : (model : List ℕ) (states : List (List ℕ)) (c : CodedGraph) (made : NewGate) → IsCoded c → IsProper c.graph
    → IsNewName c.graph.signals made.name → HasResult (text_with_gate model states c made)
text_some model states c made is proper new = then_some _ _ (partition_for_some states c made is proper new.room)
    (λ classes ok. then_some _ _ (lineage_with_some c made.name classes is ok.accepted new.free)
    (λ l extends. gives_some (sg_text (current_sg model states l))))

sound_proper : (graph : StateGraph) (c : CodedGraph) → IsSound graph c → IsProper c.graph
sound_proper graph c sound = subst IsProper (sym sound.same_graph) sound.proper

-- the name that was read is new to the graph
new_to : (a b : List ℕ) (r : HandReadings) → AreHandReadings a b r → IsNewName r.given.graph.signals r.made.name
new_to a b r are =
    new_read r.given.graph.signals (names_in r.given.graph.signals) b r.made refl are.no_fault are.made

-- ---- the command has one result
pub by_hand_one : (f a g b : List ℕ) → AtMostOne (by_hand f a g b)
by_hand_one f a g b = then_one _ _ (hand_readings_one f a g b)
    (λ r read. then_one _ _ (proper_one r.given.graph r.given.states)
    (λ c sound. text_one r.given.model r.given.states c r.made sound.coded_is (sound_proper r.given.graph c sound)))

pub by_hand_some : (f a g b : List ℕ) → HasResult (by_hand f a g b)
by_hand_some f a g b = then_some _ _ (hand_readings_some f a g b)
    (λ r read. let are = hand_readings_are f a g b r read in
    let New : StateGraph → Type 0 = λ h. IsNewName h.signals r.made.name in
    then_some _ _ (proper_some a r.given are.given)
    (λ c sound. text_some r.given.model r.given.states c r.made sound.coded_is (sound_proper r.given.graph c sound)
    (subst New (sym sound.same_graph) (new_to a b r are))))

-- ---- the lineage of what is made
module _ (text : List ℕ) (sg : Sg) (c : CodedGraph) (name : List ℕ) (classes : List Class) (l : History)
    (given : IsGivenBy text sg) (sound : IsSound sg.graph c)
    (extends : Extends (given_history c) (step_of name classes) l) (spelled : IsTrue (is_signal_name name)) where
  back : sg.graph ≡ c.graph
  back = sym sound.same_graph

  first : IsLineage c [] (given_current c)
  first = record {
    coded = sound.coded_is;
    proper = sound_proper sg.graph c sound;
    none_inserted = subst (λ (g : StateGraph). AllGiven g.signals) back (given_signals text sg given);
    grown = refl;
  }

  is_line : IsLineage l.given l.trace l.current
  is_line =
      let Line : CodedGraph → List TraceStep → Type 0 = λ k trace. IsLineage k trace l.current in
      subst₂ Line (sym extends.given_stays) (sym extends.trace_grows)
      (lineage_on c [] (given_current c) (step_of name classes) l.current first extends.inserts)

  -- the names of its signals, the new one too
  are_spelled : AreSpelled sg.model l.current.coded.graph.signals
  are_spelled =
      let before : AreSpelled sg.model c.graph.signals =
      subst (λ (g : StateGraph). AreSpelled sg.model g.signals) back (given_spelled text sg given) in
      record {
        model_name = before.model_name;
        names = named_after (given_current c) (step_of name classes) l.current extends.inserts spelled before.names;
      }

  are_states : AreStateNames l.given.graph sg.states
  are_states = subst (λ (k : CodedGraph). AreStateNames k.graph sg.states) (sym extends.given_stays)
      (subst (λ (g : StateGraph). AreStateNames g sg.states) back (given_state_names text sg given))

  pub can_be_given : HasFewArcs l → CanBeGiven sg.model sg.states l
  can_be_given few = record {
    line = is_line;
    spelled = are_spelled;
    names = are_states;
    apart = given_apart text sg given;
    few_arcs = few;
  }

pub outputs_are_made_by_hand : OutputsAreMadeByHand
outputs_are_made_by_hand f a g b output comes =
    let read = passed _ _ output comes in
    let r = read.0 in
    let are = hand_readings_are f a g b r read.1 in
    let proper = passed _ _ output read.2 in
    let c = proper.0 in
    let parts = passed _ _ output proper.2 in
    let line = passed _ _ output parts.2 in
    let l = line.0 in
    let written = line.2 in
    let sg = r.given in
    let same : output ≡ sg_text (current_sg sg.model sg.states l) = cc in
    let can = can_be_given a sg c r.made.name parts.0 l are.given proper.1 line.1 (new_to a b r are).spelled in
    record {
      given = sg;
      is_given = are.given;
      no_fault = are.no_fault;
      made = r.made;
      made_is = are.made;
      coded = c;
      sound = proper.1;
      classes = parts.0;
      partition = parts.1;
      lineage = l;
      extends = line.1;
      serves = gates_make c r.made.gate r.made.name parts.0 l proper.1.coded_is parts.1.partition line.1;
      text_is = same;
      back = λ few. subst (λ (t : List ℕ). IsGivenBy t (current_sg sg.model sg.states l)) (sym same)
          (texts_read_back sg.model sg.states l (can few));
    }
