use Rattle.std.proofs.Common.{List, ℕ, ◌++◌, sym, ap, ◌∙◌}
use Rattle.si_words.proofs.WritingLemmas.{left_as}
use Rattle.si_resettable.specs.ResettableText.{plain_text}
use Rattle.si_resettable.proofs.WritingLemmas.{left_forced, left_plain}
use Rattle.si_resettable.proofs.write.add_expression.Goals as goal

pub returns-then-not-is_among : goal.returns-then-not-is_among
returns-then-not-is_among c =
    let n = c.args.netlist.now in
    left_as _ _ _ _
    (left_plain n c.args.forced.now c.args.reset.now c.args.z c.args.text.now _ (sym c.if-not-is_among.ensures)
    (c.bytes.ensures ∙ c.in_ok-add_plain.ensures
    ∙ ap (λ (t : List ℕ). t ++ plain_text n c.args.z) c.in_ok-plain.ensures)) c.add.ensures.added

pub returns : goal.returns
returns c =
    let n = c.args.netlist.now in
    left_as _ _ _ _
    (left_forced n c.args.forced.now c.args.reset.now c.args.z c.get-value.result c.args.text.now _
    (sym c.if-not-is_among.ensures) (rw c.start.ensures at c.get-value.ensures)
    (c.bytes-2.ensures ∙ c.in_ok-add_plain.ensures
    ∙ ap (λ (t : List ℕ). t ++ plain_text n c.args.z) c.in_ok-plain.ensures)) c.add_forced.ensures
