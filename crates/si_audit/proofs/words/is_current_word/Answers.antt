use Rattle.std.proofs.Common.{◌≡◌, ◌≤◌, ◌++◌, ℕ, List, [], length, get_or, arith, sym, ap, subst, ◌∙◌}
use Rattle.std.proofs.lemmas.Option.{get_or_from_slice_get}
use Rattle.si_base.specs.Limits.{code_width}
use Rattle.si_insert.specs.declared.lineage.TraceStep.{TraceStep}
use Rattle.si_insert.specs.Lineage.{origin}
use Rattle.si_circuit.specs.Spelling.{current_word, mark}
use Rattle.si_circuit.proofs.SpellingWord.{few_insertions}
use Rattle.si_audit.proofs.StateWords.{made_of}
use Rattle.si_audit.proofs.words.is_current_word.Goals as goal

pub is_marked-requires : goal.is_marked-requires
is_marked-requires c =
    let Few : List TraceStep → Type 0 = λ trace. length trace ≤ code_width in
    subst Few (sym c.trace-inserted.ensures.same) (few_insertions c.args.lineage.now c.trace-inserted.ensures.made)

pub returns : goal.returns
returns c =
    let k = length c.trace-inserted.result.now in
    let states = c.args.states.now in
    let l = c.args.lineage.now in
    let at : c.get.inside.0 ≡ origin l.current c.args.s = omega arith in
    let named : c.get-name.result.now ≡ get_or states (origin l.current c.args.s) [] =
    sym (get_or_from_slice_get states c.get.inside.0 c.get-name.result.now [] c.get-name.ensures)
    ∙ ap (λ (i : ℕ). get_or states i []) at in
    let spelled : c.get-name.result.now ++ mark k c.bits.result ≡ current_word states l c.args.s =
    made_of states l c.args.s k c.bits.result c.get-name.result.now
    (ap (length {A = TraceStep}) c.trace-inserted.ensures.same) named c.bits.ensures in
    (λ e. c.is_marked.ensures.0 e ∙ spelled, λ same. c.is_marked.ensures.1 (same ∙ sym spelled))
