use Rattle.std.proofs.Common.{ℕ, List, Ok, ap}
use Rattle.si_refusals.specs.Stages.{Passes}
use Rattle.si_refusals.specs.declared.refusals.Refusal.TheVariants.{NoMemory}
use Rattle.si_exports.specs.Equations.{equations}
use Rattle.si_readings.proofs.ReadingRefusals.{stops}
use Rattle.si_readings.proofs.StageLemmas.{stop_first}
use Rattle.si_exports.proofs.equations.equations.Goals as goal

pub returns-in_err-netlist-clause-err : goal.returns-in_err-netlist-clause-err
returns-in_err-netlist-clause-err c =
    stops (equations c.args.file.now c.args.text.now) c.from_residual.result _ c.from_residual.ensures.1
    (stop_first _ _ _ c.in_err-netlist.ensures.err)

pub returns-in_err-output-clause-err : goal.returns-in_err-output-clause-err
returns-in_err-output-clause-err c =
    stops (equations c.args.file.now c.args.text.now)
    c.from_residual-in_err-output.result NoMemory c.from_residual-in_err-output.ensures.1 tt

pub returns-clause-ok : goal.returns-clause-ok
returns-clause-ok c = Passes c.in_ok-netlist.netlist c.in_ok-netlist.ensures.ok
    (ap (λ (t : List ℕ). Ok t) c.in_ok-output.ensures.text)
