use Rattle.std.proofs.Common.{Bool, IfOk, IfErr, Ok, subst}
use Rattle.si_refusals.specs.Ending.{MayStop, ending_of}
use Rattle.si_tool.specs.Meaning.{resolved_by}
use Rattle.si_tool.proofs.output.resolved.Goals as goal

pub returns-then-is_listed-clause-ok : goal.returns-then-is_listed-clause-ok
returns-then-is_listed-clause-ok c =
    let P : Bool → Type 0 = λ suggested. IfOk c.resolve_suggested.result
    (λ output. resolved_by suggested c.args.file.now c.args.text.now (Ok output)) in
    subst P c.if-is_listed.ensures c.resolve_suggested.ensures.ok

pub returns-then-is_listed-clause-err : goal.returns-then-is_listed-clause-err
returns-then-is_listed-clause-err c =
    let P : Bool → Type 0 = λ suggested. IfErr c.resolve_suggested.result
    (λ r. MayStop (resolved_by suggested c.args.file.now c.args.text.now) (ending_of r)) in
    subst P c.if-is_listed.ensures c.resolve_suggested.ensures.err

pub returns-else-is_listed-clause-ok : goal.returns-else-is_listed-clause-ok
returns-else-is_listed-clause-ok c =
    let P : Bool → Type 0 = λ suggested. IfOk c.resolve.result
    (λ output. resolved_by suggested c.args.file.now c.args.text.now (Ok output)) in
    subst P c.if-is_listed.ensures c.resolve.ensures.ok

pub returns-else-is_listed-clause-err : goal.returns-else-is_listed-clause-err
returns-else-is_listed-clause-err c =
    let P : Bool → Type 0 = λ suggested. IfErr c.resolve.result
    (λ r. MayStop (resolved_by suggested c.args.file.now c.args.text.now) (ending_of r)) in
    subst P c.if-is_listed.ensures c.resolve.ensures.err
