use Rattle.std.proofs.Common.{◌∙◌, ◌++◌, ap, sym}
use Rattle.std.proofs.lemmas.List.{append-nil}
use Rattle.si_base.specs.Graph.{StateGraph}
use Rattle.si_words.proofs.WritingLemmas.{left_as}
use Rattle.si_words.specs.Loops.Writing.{spaced}
use Rattle.si_pictures.proofs.CodeLemmas.{code_by_calls, no_code}
use Rattle.si_pictures.proofs.states_text.add_code_word.Goals as goal

pub returns-then-is_empty : goal.returns-then-is_empty
returns-then-is_empty c =
    let signals = c.signals.ensures ∙ ap (λ (g : StateGraph). g.signals) c.graph.ensures.same in
    let none = rw signals at (sym c.if-is_empty.ensures) in
    sym (ap (λ ws. c.args.text.now ++ spaced ws) (no_code c.args.graph.now c.args.s none)
    ∙ append-nil c.args.text.now)

pub returns : goal.returns
returns c =
    let signals = c.signals.ensures ∙ ap (λ (g : StateGraph). g.signals) c.graph.ensures.same in
    let some = rw signals at (sym c.if-is_empty.ensures) in
    left_as _ _ _ _ (code_by_calls c.args.graph.now c.args.s some c.args.text.now _ c.in_ok-add.ensures.added)
    c.add_code.ensures
