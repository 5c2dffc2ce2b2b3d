use Rattle.std.proofs.Common.{◌≡◌, ap, ◌∙◌}
use Rattle.si_base.specs.Netlist.{Insertion}
use Rattle.si_words.proofs.WritingLemmas.{left_as}
use Rattle.si_circuit.proofs.InsertionWordsLemmas.{insertion_by_calls}
use Rattle.si_circuit.proofs.insertion_words.add_insertion.Goals as goal

pub returns : goal.returns
returns c =
    let name : c.bytes.result.now ≡ c.args.insert.now.name =
    c.bytes.ensures ∙ ap (λ (i : Insertion). i.name) c.insert.view_is in
    let up = ap (λ (i : Insertion). i.up) c.insert.view_is in
    let down = ap (λ (i : Insertion). i.down) c.insert.view_is in
    left_as _ _ _ _ (insertion_by_calls c.args.insert.now c.args.text.now _ _ _ _ _
    c.in_ok-add_word.ensures
    (rw name at c.in_ok-add_word-2.ensures)
    c.in_ok-add_word-3.ensures
    (rw up at c.in_ok-add_words.ensures)
    c.in_ok-add_word-4.ensures) (rw down at c.add_words-2.ensures)
