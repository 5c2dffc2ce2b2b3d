use Rattle.std.proofs.Common.{List, Ok, ℕ, ap, subst, sym}
use Rattle.si_base.specs.Codes.{CodedGraph}
use Rattle.si_circuit.specs.Circuits.{AreStateNames}
use Rattle.si_readings.proofs.ReadingRefusals.{stops}
use Rattle.si_readings.proofs.StageLemmas.{stop_first}
use Rattle.si_refusals.specs.Stages.{Passes}
use Rattle.si_refusals.specs.declared.refusals.Refusal.TheVariants as refusal
use Rattle.si_by_hand.specs.ByHand.{text_with_gate}
use Rattle.si_by_hand.specs.Loops.Handed.{new_gate_now}
use Rattle.si_by_hand.proofs.by_hand.text_with_gate.Goals as goal

-- ---- where a stage refuses, or memory runs out
pub returns-in_err-accepted-clause-err : goal.returns-in_err-accepted-clause-err
returns-in_err-accepted-clause-err c =
    let a = c.args in
    stops (text_with_gate a.model.now a.states.now a.graph (new_gate_now a.made)) c.from_residual.result _
    c.from_residual.ensures.1 (stop_first _ _ _ c.in_err-accepted.ensures.err)

pub returns-in_err-lineage-clause-err : goal.returns-in_err-lineage-clause-err
returns-in_err-lineage-clause-err c =
    let a = c.args in
    stops (text_with_gate a.model.now a.states.now a.graph (new_gate_now a.made))
    c.from_residual-in_err-lineage.result refusal.NoMemory c.from_residual-in_err-lineage.ensures.1 tt

pub returns-in_err-output-clause-err : goal.returns-in_err-output-clause-err
returns-in_err-output-clause-err c =
    let a = c.args in
    stops (text_with_gate a.model.now a.states.now a.graph (new_gate_now a.made))
    c.from_residual-in_err-output.result refusal.NoMemory c.from_residual-in_err-output.ensures.1 tt

-- ---- what the calls ask for
pub accepted_for-requires-clause-names : goal.accepted_for-requires-clause-names
accepted_for-requires-clause-names c = c.requires.names.count

pub lineage_with-requires-clause-accepted : goal.lineage_with-requires-clause-accepted
lineage_with-requires-clause-accepted c = c.in_ok-accepted.ensures.ok.accepted

pub lineage_with-requires-clause-new : goal.lineage_with-requires-clause-new
lineage_with-requires-clause-new c = c.requires.new.free

pub current_text-requires : goal.current_text-requires
current_text-requires c =
    subst (λ (k : CodedGraph). AreStateNames k.graph c.args.states.now) (sym c.in_ok-lineage.ensures.given_stays)
    c.requires.names

-- ---- the output
pub returns-clause-ok : goal.returns-clause-ok
returns-clause-ok c =
    Passes c.in_ok-accepted.accepted c.in_ok-accepted.ensures.ok
    (Passes c.in_ok-lineage.lineage c.in_ok-lineage.ensures (ap (λ (t : List ℕ). Ok t) c.in_ok-output.ensures.text))
