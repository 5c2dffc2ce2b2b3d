use Rattle.si_exports.proofs.structure.structured.Goals as goal

pub returns-in_ok-refusal_of-in-Err-clause-err : goal.returns-in_ok-refusal_of-in-Err-clause-err
returns-in_ok-refusal_of-in-Err-clause-err c = c.in_ok-refusal_of-in-Err.ensures c.args.reset.now
