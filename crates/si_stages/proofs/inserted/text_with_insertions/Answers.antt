use Rattle.std.proofs.Common.{List, Ok, ℕ, ap}
use Rattle.si_readings.proofs.ReadingRefusals.{stops}
use Rattle.si_readings.proofs.StageLemmas.{stop_first}
use Rattle.si_refusals.specs.Stages.{Passes}
use Rattle.si_refusals.specs.declared.refusals.Refusal.TheVariants.{NoMemory}
use Rattle.si_stages.proofs.InsertedTexts.{names_taken}
use Rattle.si_stages.specs.Inserted.{text_with_insertions}
use Rattle.si_stages.proofs.inserted.text_with_insertions.Goals as goal

-- ---- where a stage refuses
pub returns-in_err-lineage-clause-err : goal.returns-in_err-lineage-clause-err
returns-in_err-lineage-clause-err c =
    let a = c.args in
    stops (text_with_insertions a.model.now a.states.now a.graph a.netlist.now) c.from_residual.result _
    c.from_residual.ensures.1 (stop_first _ _ _ c.in_err-lineage.ensures.err)

pub returns-in_err-output-clause-err : goal.returns-in_err-output-clause-err
returns-in_err-output-clause-err c =
    let a = c.args in
    stops (text_with_insertions a.model.now a.states.now a.graph a.netlist.now)
    c.from_residual-in_err-output.result NoMemory c.from_residual-in_err-output.ensures.1 tt

-- ---- what the call asks for
pub current_text-requires : goal.current_text-requires
current_text-requires c =
    names_taken c.args.states.now c.args.graph c.args.netlist.now c.in_ok-lineage.lineage c.requires.names
    c.in_ok-lineage.ensures.ok

-- ---- the output
pub returns-clause-ok : goal.returns-clause-ok
returns-clause-ok c =
    Passes c.in_ok-lineage.lineage c.in_ok-lineage.ensures.ok (ap (λ (t : List ℕ). Ok t) c.in_ok-output.ensures.text)
