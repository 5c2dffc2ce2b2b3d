use Rattle.std.proofs.Common.{◌≡◌, ◌∙◌, ◌≤◌, List, length, ap, sym, subst}
use Rattle.std.proofs.lemmas.Result.{IfOk-weaker}
use Rattle.si_base.specs.Limits.{code_width}
use Rattle.si_insert.specs.declared.lineage.TraceStep.{TraceStep}
use Rattle.si_circuit.specs.Spelling.{current_word}
use Rattle.si_circuit.proofs.SpellingWord.{few_insertions, current_word_made}
use Rattle.si_circuit.proofs.spelling.current_state_word.Goals as goal

pub state_word-requires-clause-room : goal.state_word-requires-clause-room
state_word-requires-clause-room c =
    let Few : List TraceStep → Type 0 = λ trace. length trace ≤ code_width in
    subst Few (sym c.trace-inserted.ensures.same) (few_insertions c.args.lineage.now c.trace-inserted.ensures.made)

pub returns : goal.returns
returns c =
    let k = length c.trace-inserted.result.now in
    let current : c.as_slice.result.now ≡ current_word c.args.states.now c.args.lineage.now c.args.s =
    current_word_made c.args.states.now c.args.lineage.now c.args.s k _ c.as_slice.result.now
    (ap (length {A = TraceStep}) c.trace-inserted.ensures.same) c.origin.ensures c.bits.ensures
    (c.as_slice.ensures.value ∙ c.in_ok-word.ensures) in
    IfOk-weaker c.copy_of.result (λ word. word ≡ c.as_slice.result.now)
    (λ word. word ≡ current_word c.args.states.now c.args.lineage.now c.args.s) (λ word is. is ∙ current)
    c.copy_of.ensures
