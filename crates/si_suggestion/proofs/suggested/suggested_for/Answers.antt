use Rattle.std.proofs.Common.{◌≡◌, ◌∙◌, ℕ, List, Ok, ap, subst, sym}
use Rattle.std.proofs.lemmas.Result.{IfOk-weaker}
use Rattle.si_base.specs.Netlist.{Netlist}
use Rattle.si_base.specs.NetlistText.{netlist_text}
use Rattle.si_readings.proofs.ReadingRefusals.{stops}
use Rattle.si_suggestion.specs.Suggestion.{IsSuggestion, suggestion}
use Rattle.si_suggestion.proofs.suggested.suggested_for.Goals as goal

pub returns-in_err-circuit-clause-err : goal.returns-in_err-circuit-clause-err
returns-in_err-circuit-clause-err c =
    let a = c.args in
    stops (suggestion a.style a.model.now a.states.now a.given.now) c.from_residual.result _
    c.from_residual.ensures.1 c.in_err-circuit.ensures.err

pub returns-clause-ok : goal.returns-clause-ok
returns-clause-ok c =
    let a = c.args in
    let written : c.netlist.result.now ≡ c.in_ok-circuit.circuit.netlist = c.netlist.ensures.same in
    IfOk-weaker c.text_of.result
    (λ (text : List ℕ). text ≡ netlist_text c.netlist.result.now)
    (λ (text : List ℕ). suggestion a.style a.model.now a.states.now a.given.now (Ok text))
    (λ text is. subst (IsSuggestion a.style a.model.now a.states.now a.given.now)
    (sym (is ∙ ap (λ (n : Netlist). netlist_text n) written)) c.in_ok-circuit.ensures.ok.suggestion)
    c.text_of.ensures.ok
