-- What handshakes come to: one output, and no refusal.
use Rattle.std.proofs.Common.{◌≡◌, ℕ, ◌≤◌, List, length, refl, sym, ap, ap₂, subst, ◌∙◌}
use Rattle.si_base.specs.Behaviour.{Implements}
use Rattle.si_base.specs.Codes.{CodedGraph}
use Rattle.si_base.specs.GivenGraph.{Sg}
use Rattle.si_base.specs.Graph.{StateGraph}
use Rattle.si_base.specs.Netlist.{Netlist}
use Rattle.si_base.specs.NetlistText.{netlist_text}
use Rattle.si_base.specs.Proper.{HasNoConflict}
use Rattle.si_checks.proofs.ByCodesExist.{some_codes}
use Rattle.si_circuit.specs.Circuits.{AreStateNames, circuit_of}
use Rattle.si_circuit.specs.Spelled.{AreSpelled}
use Rattle.si_circuit.specs.declared.style.Style.TheVariants.{Complex}
use Rattle.si_handshakes.specs.Handshakes.{IsHandshakes, max_handshakes}
use Rattle.si_handshakes.proofs.HandshakesExist.{some_handshakes}
use Rattle.si_handshakes.proofs.HandshakeProper.{connected, no_conflict, proper}
use Rattle.si_handshakes.proofs.HandshakeSizes.{one_graph}
use Rattle.si_handshakes.proofs.NamesWritten.{writable}
use Rattle.si_insert.specs.Lineage.{AllGiven, History, given_history}
use Rattle.si_sg.proofs.WholeLaw.{read_back}
use Rattle.si_sg.specs.CanonicalText.{sg_text}
use Rattle.si_sg.specs.GivenGraph.{IsGivenBy}
use Rattle.si_readings.specs.Checks.{IsSound}
use Rattle.si_exercise.specs.Exercise.{IsExercise, exercise, exercise_text}
use Rattle.si_readings.specs.Laws.{AtMostOne, HasResult}
use Rattle.si_stages.specs.Synthesis.{IsSynthesis}
use Rattle.si_readings.proofs.CheckLemmas.{coded_unique}
use Rattle.si_stages.proofs.GivenLineages.{IsGivenLineage, given_lineage, given_signals}
use Rattle.si_stages.proofs.ResolutionLemmas.{IsResolution}
use Rattle.si_readings.proofs.StageLemmas.{shows_one, shows_some}
use Rattle.si_stages.proofs.SynthesisLemmas.{is_synthesis}

-- a graph with its model and the names of its states
abbrev pub given_sg : (model : List ℕ) → StateGraph → (states : List (List ℕ)) → Sg
given_sg model graph states = record { model = model; graph = graph; states = states }

-- the netlist that is counted
abbrev pub own_netlist : Sg → CodedGraph → Netlist
own_netlist sg coded = circuit_of Complex sg.model sg.states (given_history coded)

-- ---- the graph of handshakes, and its codes
module _ (n : ℕ) (sg : Sg) (few : n ≤ max_handshakes) (is : IsHandshakes n sg) (coded : CodedGraph)
    (sound : IsSound sg.graph coded) where
  given : IsGivenBy (sg_text sg) sg
  given = read_back sg (writable n sg few is)

  pub free : HasNoConflict coded
  free = no_conflict n sg is coded sound.same_graph sound.coded_is

  pub none_inserted : AllGiven coded.graph.signals
  none_inserted =
      let Given : StateGraph → Type 0 = λ g. AllGiven g.signals in
      subst Given (sym sound.same_graph) (given_signals (sg_text sg) sg given)

  resolves : IsResolution sg.graph (given_history coded)
  resolves = record { sound = sound; resolves = record { goes = refl; done = free } }

  line : IsGivenLineage sg (given_history coded)
  line = given_lineage (sg_text sg) sg (given_history coded) given resolves

  pub spelled : AreSpelled sg.model coded.graph.signals
  spelled = line.spelled

  pub named : AreStateNames coded.graph sg.states
  named = line.names

  implements : Implements (own_netlist sg coded) sg.graph
  implements =
      let netlist : Netlist = own_netlist sg coded in
      let made : IsSynthesis Complex sg (given_history coded) (netlist_text netlist) =
      is_synthesis Complex (sg_text sg) sg (given_history coded) (netlist_text netlist) given resolves refl in
      subst (λ (m : Netlist). Implements m sg.graph) made.gates_are made.written.implements

  pub is_exercise : (output : List ℕ)
      → output ≡ exercise_text n sg.graph.states (length sg.graph.edges) (own_netlist sg coded) → IsExercise n output
  is_exercise output output_is = record {
    given = sg;
    handshakes = is;
    coded = coded;
    sound = sound;
    netlist = own_netlist sg coded;
    gates_are = refl;
    implements = implements;
    output_is = output_is;
  }

  -- over what the calls hand out
  pub counted : (states arcs : ℕ) (netlist : Netlist) (l : History) → states ≡ sg.graph.states
      → arcs ≡ length sg.graph.edges → netlist ≡ circuit_of Complex sg.model sg.states l → l ≡ given_history coded
      → (output : List ℕ) → output ≡ exercise_text n states arcs netlist → IsExercise n output
  counted states arcs netlist l states_are arcs_are netlist_is same output output_is =
      let own : netlist ≡ own_netlist sg coded =
      netlist_is ∙ ap (λ (h : History). circuit_of Complex sg.model sg.states h) same in
      is_exercise output
      (output_is ∙ ap₂ (λ s a. exercise_text n s a netlist) states_are arcs_are
      ∙ ap (λ (m : Netlist). exercise_text n sg.graph.states (length sg.graph.edges) m) own)

-- ---- one output
same_output : (n : ℕ) (x y : List ℕ) → IsExercise n x → IsExercise n y → x ≡ y
same_output n x y one other =
    let graphs : one.given ≡ other.given = one_graph n one.given other.given one.handshakes other.handshakes in
    let Same : Sg → Type 0 = λ sg. one.coded.graph ≡ sg.graph in
    let on_one : one.coded.graph ≡ other.given.graph = subst Same graphs one.sound.same_graph in
    let codes : one.coded ≡ other.coded =
    coded_unique one.coded other.coded one.sound.coded_is other.sound.coded_is
    (on_one ∙ sym other.sound.same_graph) in
    let netlists : one.netlist ≡ other.netlist =
    one.gates_are ∙ ap₂ own_netlist graphs codes ∙ sym other.gates_are in
    let text : Sg → Netlist → List ℕ = λ sg m. exercise_text n sg.graph.states (length sg.graph.edges) m in
    one.output_is ∙ ap₂ text graphs netlists ∙ sym other.output_is

pub exercise_one : (n : ℕ) → AtMostOne (exercise n)
exercise_one n = shows_one (IsExercise n) (same_output n)

-- ---- and some output
some_output : (n : ℕ) → n ≤ max_handshakes → (output : List ℕ) × IsExercise n output
some_output n few =
    let made = some_handshakes n few in
    let sg = made.0 in
    let good = proper n sg made.1 in
    let some = some_codes sg.graph made.1.graph (connected n sg made.1) good.deterministic good.consistent in
    let sound : IsSound sg.graph some.0 =
    record { coded_is = some.2; same_graph = some.1; proper = good } in
    (_, is_exercise n sg few made.1 some.0 sound _ refl)

pub exercise_some : (n : ℕ) → n ≤ max_handshakes → HasResult (exercise n)
exercise_some n few = shows_some (IsExercise n) (some_output n few)
