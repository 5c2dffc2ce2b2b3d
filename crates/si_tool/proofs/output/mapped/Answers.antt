use Rattle.std.proofs.Common.{Bool, IfOk, IfErr, Ok, subst}
use Rattle.si_refusals.specs.Ending.{MayStop, ending_of}
use Rattle.si_tool.specs.Meaning.{mapped_by}
use Rattle.si_tool.proofs.output.mapped.Goals as goal

pub returns-then-is_listed-clause-ok : goal.returns-then-is_listed-clause-ok
returns-then-is_listed-clause-ok c =
    let a = c.args in
    let P : Bool → Type 0 = λ suggested. IfOk c.map_suggested.result (λ output. mapped_by suggested a.format
    a.graph_file.now a.graph.now a.library_file.now a.library.now (Ok output)) in
    subst P c.if-is_listed.ensures c.map_suggested.ensures.ok

pub returns-then-is_listed-clause-err : goal.returns-then-is_listed-clause-err
returns-then-is_listed-clause-err c =
    let a = c.args in
    let P : Bool → Type 0 = λ suggested. IfErr c.map_suggested.result (λ r. MayStop (mapped_by suggested a.format
    a.graph_file.now a.graph.now a.library_file.now a.library.now) (ending_of r)) in
    subst P c.if-is_listed.ensures c.map_suggested.ensures.err

pub returns-else-is_listed-clause-ok : goal.returns-else-is_listed-clause-ok
returns-else-is_listed-clause-ok c =
    let a = c.args in
    let P : Bool → Type 0 = λ suggested. IfOk c.map_texts.result (λ output. mapped_by suggested a.format
    a.graph_file.now a.graph.now a.library_file.now a.library.now (Ok output)) in
    subst P c.if-is_listed.ensures c.map_texts.ensures.ok

pub returns-else-is_listed-clause-err : goal.returns-else-is_listed-clause-err
returns-else-is_listed-clause-err c =
    let a = c.args in
    let P : Bool → Type 0 = λ suggested. IfErr c.map_texts.result (λ r. MayStop (mapped_by suggested a.format
    a.graph_file.now a.graph.now a.library_file.now a.library.now) (ending_of r)) in
    subst P c.if-is_listed.ensures c.map_texts.ensures.err
