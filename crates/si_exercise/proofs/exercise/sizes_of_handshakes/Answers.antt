use Rattle.std.proofs.Common.{◌≡◌, ◌∙◌, List, ℕ, refl}
use Rattle.std.proofs.lemmas.Result.{IfOk-weaker}
use Rattle.si_handshakes.proofs.HandshakeProper.{proper}
use Rattle.si_insert.specs.Lineage.{given_history}
use Rattle.si_exercise.specs.Exercise.{IsExercise, exercise_text}
use Rattle.si_exercise.proofs.ExerciseLemmas.{counted, free, given_sg, named, none_inserted, spelled}
use Rattle.si_exercise.proofs.exercise.sizes_of_handshakes.Goals as goal

pub proper_graph-requires-clause-proper : goal.proper_graph-requires-clause-proper
proper_graph-requires-clause-proper c =
    let a = c.args in
    proper a.n (given_sg a.model.now a.graph a.states.now) c.requires.handshakes

pub circuit_as_given-requires-clause-given : goal.circuit_as_given-requires-clause-given
circuit_as_given-requires-clause-given c =
    let a = c.args in
    none_inserted a.n (given_sg a.model.now a.graph a.states.now) c.requires.few c.requires.handshakes
    c.in_ok-proper.proper c.in_ok-proper.ensures

pub circuit_as_given-requires-clause-free : goal.circuit_as_given-requires-clause-free
circuit_as_given-requires-clause-free c =
    let a = c.args in
    free a.n (given_sg a.model.now a.graph a.states.now) c.requires.few c.requires.handshakes
    c.in_ok-proper.proper c.in_ok-proper.ensures

pub circuit_as_given-requires-clause-spelled : goal.circuit_as_given-requires-clause-spelled
circuit_as_given-requires-clause-spelled c =
    let a = c.args in
    spelled a.n (given_sg a.model.now a.graph a.states.now) c.requires.few c.requires.handshakes
    c.in_ok-proper.proper c.in_ok-proper.ensures

pub circuit_as_given-requires-clause-states : goal.circuit_as_given-requires-clause-states
circuit_as_given-requires-clause-states c =
    let a = c.args in
    named a.n (given_sg a.model.now a.graph a.states.now) c.requires.few c.requires.handshakes
    c.in_ok-proper.proper c.in_ok-proper.ensures

pub returns : goal.returns
returns c =
    let a = c.args in
    let sg = given_sg a.model.now a.graph a.states.now in
    let proper = c.in_ok-proper.proper in
    let states = c.states-state_count.result in
    let arcs = c.edges-arc_count.result in
    let netlist = c.netlist.result.now in
    let Text : List ℕ → Type 0 = λ t. t ≡ exercise_text a.n states arcs netlist in
    let text = counted a.n sg c.requires.few c.requires.handshakes proper c.in_ok-proper.ensures states arcs netlist
    (given_history proper) c.states-state_count.ensures c.edges-arc_count.ensures
    (c.netlist.ensures.same ∙ c.in_ok-circuit.ensures) refl in
    IfOk-weaker c.sizes.result Text (IsExercise a.n) text c.sizes.ensures
