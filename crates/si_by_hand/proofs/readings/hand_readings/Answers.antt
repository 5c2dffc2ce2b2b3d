use Rattle.std.proofs.Common.{refl}
use Rattle.si_refusals.specs.Stages.{Passes}
use Rattle.si_sg.specs.GivenGraph.{sg_now}
use Rattle.si_readings.proofs.ReadingRefusals.{stops}
use Rattle.si_readings.proofs.StageLemmas.{stop_first, stop_next}
use Rattle.si_by_hand.specs.HandReadings.{hand_readings}
use Rattle.si_by_hand.specs.Loops.Handed.{new_gate_now}
use Rattle.si_by_hand.proofs.readings.hand_readings.Goals as goal

-- ---- the signals of a graph
pub gate_in-requires-clause-distinct : goal.gate_in-requires-clause-distinct
gate_in-requires-clause-distinct c = rw c.signals.ensures c.in_ok-given.ensures.named.is_graph.names

pub gate_in-requires-clause-few : goal.gate_in-requires-clause-few
gate_in-requires-clause-few c = rw c.signals.ensures c.in_ok-given.ensures.named.is_graph.few_signals

-- ---- where a text is refused
pub returns-in_err-given-clause-err : goal.returns-in_err-given-clause-err
returns-in_err-given-clause-err c =
    let a = c.args in
    stops (hand_readings a.graph_file.now a.graph.now a.gate_file.now a.gate.now) c.from_residual.result _
    c.from_residual.ensures.1 (stop_first _ _ _ c.in_err-given.ensures.err)

pub returns-in_err-made-clause-err : goal.returns-in_err-made-clause-err
returns-in_err-made-clause-err c =
    let a = c.args in
    stops (hand_readings a.graph_file.now a.graph.now a.gate_file.now a.gate.now)
    c.from_residual-in_err-made.result _ c.from_residual-in_err-made.ensures.1
    (stop_next _ _ (sg_now c.in_ok-given.given) _ c.in_ok-given.ensures.ok
    (stop_first _ _ _ (rw c.signals.ensures at c.in_err-made.ensures.err)))

-- ---- both
pub returns-clause-ok : goal.returns-clause-ok
returns-clause-ok c =
    Passes (sg_now c.in_ok-given.given) c.in_ok-given.ensures.ok
    (Passes (new_gate_now c.in_ok-made.made) (rw c.signals.ensures at c.in_ok-made.ensures.ok) refl)

pub returns-clause-new : goal.returns-clause-new
returns-clause-new c = rw c.signals.ensures at c.in_ok-made.ensures.new
