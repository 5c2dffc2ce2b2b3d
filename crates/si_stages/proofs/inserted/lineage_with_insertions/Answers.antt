use Rattle.std.proofs.Common.{List, subst}
use Rattle.si_base.specs.declared.graph.Signal.{Signal}
use Rattle.si_refusals.specs.Ending.{ending_of}
use Rattle.si_stages.specs.Audited.{TellsRejection}
use Rattle.si_stages.proofs.InsertedTexts.{insertion_told}
use Rattle.si_stages.proofs.inserted.lineage_with_insertions.Goals as goal

pub returns-in-Err-clause-err : goal.returns-in-Err-clause-err
returns-in-Err-clause-err c =
    let fault = c.in-Err.fault in
    let Tells : List Signal → Type 0 = λ signals. TellsRejection signals fault (ending_of c.rejection.result) in
    insertion_told c.args.states.now c.args.graph c.args.netlist.now fault _ c.in-Err.ensures.fault
    (subst Tells c.signals.ensures.signals c.rejection.ensures)
