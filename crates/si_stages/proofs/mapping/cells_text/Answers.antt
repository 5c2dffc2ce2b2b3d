use Rattle.si_stages.proofs.MappingLemmas.{stuck_told}
use Rattle.si_stages.proofs.mapping.cells_text.Goals as goal

pub returns-in_ok-unfit_refusal-in-Err-clause-err : goal.returns-in_ok-unfit_refusal-in-Err-clause-err
returns-in_ok-unfit_refusal-in-Err-clause-err c =
    stuck_told c.args.cells.now c.args.states.now c.args.resolved c.in-Err.field-0.resolved c.in-Err.field-0.cause _
    c.in-Err.ensures.unmapped c.in_ok-unfit_refusal-in-Err.ensures
