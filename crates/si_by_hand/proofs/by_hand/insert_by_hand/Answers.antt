use Rattle.std.proofs.Common.{List, Ok, ℕ}
use Rattle.std.proofs.lemmas.Result.{IfOk-weaker}
use Rattle.si_readings.proofs.ReadingRefusals.{err_map, stops}
use Rattle.si_readings.proofs.StageLemmas.{stop_first, stop_next}
use Rattle.si_refusals.specs.Ending.{MayStop}
use Rattle.si_refusals.specs.Stages.{Passes}
use Rattle.si_by_hand.specs.ByHand.{by_hand, text_by_hand}
use Rattle.si_by_hand.proofs.HandReadingLemmas.{hand_readings_are}
use Rattle.si_by_hand.specs.Loops.Handed.{hand_readings_now}
use Rattle.si_by_hand.proofs.by_hand.insert_by_hand.Goals as goal

-- ---- where the readings refuse
pub returns-in_err-readings-clause-err : goal.returns-in_err-readings-clause-err
returns-in_err-readings-clause-err c =
    let a = c.args in
    stops (by_hand a.graph_file.now a.graph.now a.gate_file.now a.gate.now) c.from_residual.result _
    c.from_residual.ensures.1 (stop_first _ _ _ c.in_err-readings.ensures.err)

-- ---- what the call asks for
pub text_by_hand-requires-clause-given : goal.text_by_hand-requires-clause-given
text_by_hand-requires-clause-given c =
    let a = c.args in
    let are = hand_readings_are a.graph_file.now a.graph.now a.gate_file.now a.gate.now
    (hand_readings_now c.in_ok-readings.readings) c.in_ok-readings.ensures.ok in
    (a.graph.now, are.given)

-- ---- the text after the insertion
pub returns-clause-ok : goal.returns-clause-ok
returns-clause-ok c =
    let a = c.args in
    let read = hand_readings_now c.in_ok-readings.readings in
    IfOk-weaker c.text_by_hand.result
    (λ (text : List ℕ). text_by_hand read.given read.made (Ok text))
    (λ (text : List ℕ). by_hand a.graph_file.now a.graph.now a.gate_file.now a.gate.now (Ok text))
    (λ text told. Passes read c.in_ok-readings.ensures.ok told)
    c.text_by_hand.ensures.ok

pub returns-clause-err : goal.returns-clause-err
returns-clause-err c =
    let a = c.args in
    let read = hand_readings_now c.in_ok-readings.readings in
    err_map c.text_by_hand.result (MayStop (text_by_hand read.given read.made))
    (MayStop (by_hand a.graph_file.now a.graph.now a.gate_file.now a.gate.now))
    (λ e may. stop_next _ _ read e c.in_ok-readings.ensures.ok may)
    c.text_by_hand.ensures.err
