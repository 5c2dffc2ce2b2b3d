use Rattle.std.proofs.Common.{◌∙◌, subst}
use Rattle.si_insert.specs.Lineage.{History, IsLineage}
use Rattle.si_suggestion.proofs.GivenNetlists.{its_circuit}
use Rattle.si_suggestion.proofs.suggested.suggested_circuit.Goals as goal

pub returns-in-Ok-clause-ok : goal.returns-in-Ok-clause-ok
returns-in-Ok-clause-ok c =
    let a = c.args in
    let line = subst (λ (l : History). IsLineage l.given l.trace l.current)
    (c.lineage.ensures.same ∙ c.resolved.ensures) c.trace-trace.ensures.made in
    its_circuit a.style a.model.now a.states.now a.given.now c.in-Ok.circuit line
    c.netlist-netlist.ensures.circuit c.in-Ok.ensures.suggested

pub returns-in-Err-clause-err : goal.returns-in-Err-clause-err
returns-in-Err-clause-err c = c.refusal_for.ensures c.args.style c.args.model.now
