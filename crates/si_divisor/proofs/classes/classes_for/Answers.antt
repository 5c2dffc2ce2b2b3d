use Rattle.std.proofs.Common.{◌∙◌, ap, inl, inr, length, sym}
use Rattle.std.proofs.lemmas.Bool.{true≢false}
use Rattle.si_closures.specs.Loops.WordSearch.{column}
use Rattle.si_divisor.specs.Targets.{forced_in}
use Rattle.si_divisor.proofs.ManyFunctionLemmas.{are_sets_alone, settled_alone, sized}
use Rattle.si_divisor.proofs.PartitionForAnswers.{sets_of, is_partition}
use Rattle.si_divisor.proofs.classes.classes_for.Goals as goal

pub set_at-requires-clause-size : goal.set_at-requires-clause-size
set_at-requires-clause-size c =
    ap length c.deref.ensures.value ∙ c.requires.words.up_size ∙ sym c.states.ensures

pub set_at-requires-2-clause-size : goal.set_at-requires-2-clause-size
set_at-requires-2-clause-size c =
    ap length c.deref-2.ensures.value ∙ c.requires.words.down_size ∙ sym c.states-2.ensures

pub set_at-requires-3-clause-size : goal.set_at-requires-3-clause-size
set_at-requires-3-clause-size c =
    ap length c.deref-3.ensures.value ∙ c.requires.words.ones_size ∙ sym c.states-3.ensures

pub set_at-requires-4-clause-size : goal.set_at-requires-4-clause-size
set_at-requires-4-clause-size c =
    ap length c.deref-4.ensures.value ∙ c.requires.words.zeros_size ∙ sym c.states-4.ensures

pub first_unforced-requires-clause-ones : goal.first_unforced-requires-clause-ones
first_unforced-requires-clause-ones c =
    let is = c.in_ok-ones.ensures ∙ ap (column 0) c.deref-3.ensures.value in
    ap length is ∙ sized 0 c.args.words.now.ones.items ∙ c.requires.words.ones_size

pub first_unforced-requires-clause-zeros : goal.first_unforced-requires-clause-zeros
first_unforced-requires-clause-zeros c =
    let is = c.in_ok-zeros.ensures ∙ ap (column 0) c.deref-4.ensures.value in
    ap length is ∙ sized 0 c.args.words.now.zeros.items ∙ c.requires.words.zeros_size

pub returns-in-Some-clause-fault : goal.returns-in-Some-clause-fault
returns-in-Some-clause-fault c =
    let g = c.args.graph.now in
    let words = c.args.words.now in
    let ones = c.in_ok-ones.ones in
    let zeros = c.in_ok-zeros.zeros in
    let ones_is = c.in_ok-ones.ensures ∙ ap (column 0) c.deref-3.ensures.value in
    let zeros_is = c.in_ok-zeros.ensures ∙ ap (column 0) c.deref-4.ensures.value in
    let settled = settled_alone g words ones zeros c.requires.words ones_is zeros_is in
    (ones, zeros, settled, c.in-Some.ensures)

pub returns-in-Some-first_settled_at_both-clause-fault : goal.returns-in-Some-first_settled_at_both-clause-fault
returns-in-Some-first_settled_at_both-clause-fault c =
    let g = c.args.graph.now in
    let words = c.args.words.now in
    let ones = c.in_ok-ones.ones in
    let zeros = c.in_ok-zeros.zeros in
    let ones_is = c.in_ok-ones.ensures ∙ ap (column 0) c.deref-3.ensures.value in
    let zeros_is = c.in_ok-zeros.ensures ∙ ap (column 0) c.deref-4.ensures.value in
    let settled = settled_alone g words ones zeros c.requires.words ones_is zeros_is in
    (ones, zeros, settled, c.in_default.ensures, c.in-Some-first_settled_at_both.ensures)

pub returns-in-Some-first_leaving-clause-fault : goal.returns-in-Some-first_leaving-clause-fault
returns-in-Some-first_leaving-clause-fault c =
    let g = c.args.graph.now in
    let words = c.args.words.now in
    let ones = c.in_ok-ones.ones in
    let zeros = c.in_ok-zeros.zeros in
    let ones_is = c.in_ok-ones.ensures ∙ ap (column 0) c.deref-3.ensures.value in
    let zeros_is = c.in_ok-zeros.ensures ∙ ap (column 0) c.deref-4.ensures.value in
    let plus = c.in_ok-plus.plus in
    let minus = c.in_ok-minus.minus in
    let up_is = c.in_ok-up.ensures ∙ ap (column 0) c.deref.ensures.value in
    let down_is = c.in_ok-down.ensures ∙ ap (column 0) c.deref-2.ensures.value in
    let rising = rw c.deref-5.ensures.value at c.in_ok-plus.ensures in
    let falling = rw c.deref-6.ensures.value at c.in_ok-minus.ensures in
    let are = are_sets_alone g words ones zeros plus minus c.requires.graph c.requires.words ones_is zeros_is
    c.in_default.ensures c.in_default-first_settled_at_both.ensures rising falling in
    let leaving = rw (up_is, down_is) at c.in-Some-first_leaving.ensures in
    (sets_of ones zeros plus minus, are, leaving)

pub returns-then-not-has_some-clause-fault : goal.returns-then-not-has_some-clause-fault
returns-then-not-has_some-clause-fault c =
    let g = c.args.graph.now in
    let words = c.args.words.now in
    let ones = c.in_ok-ones.ones in
    let zeros = c.in_ok-zeros.zeros in
    let ones_is = c.in_ok-ones.ensures ∙ ap (column 0) c.deref-3.ensures.value in
    let zeros_is = c.in_ok-zeros.ensures ∙ ap (column 0) c.deref-4.ensures.value in
    let plus = c.in_ok-plus.plus in
    let minus = c.in_ok-minus.minus in
    let up_is = c.in_ok-up.ensures ∙ ap (column 0) c.deref.ensures.value in
    let down_is = c.in_ok-down.ensures ∙ ap (column 0) c.deref-2.ensures.value in
    let rising = rw c.deref-5.ensures.value at c.in_ok-plus.ensures in
    let falling = rw c.deref-6.ensures.value at c.in_ok-minus.ensures in
    let are = are_sets_alone g words ones zeros plus minus c.requires.graph c.requires.words ones_is zeros_is
    c.in_default.ensures c.in_default-first_settled_at_both.ensures rising falling in
    let stays = rw (up_is, down_is) at c.in_default-first_leaving.ensures in (
      sets_of ones zeros plus minus,
      are,
      stays,
      inl (λ some. true≢false (sym (c.has_some.ensures.1 some) ∙ c.if-not-has_some.true)),
    )

pub returns-then-not-has_some-2-clause-fault : goal.returns-then-not-has_some-2-clause-fault
returns-then-not-has_some-2-clause-fault c =
    let g = c.args.graph.now in
    let words = c.args.words.now in
    let ones = c.in_ok-ones.ones in
    let zeros = c.in_ok-zeros.zeros in
    let ones_is = c.in_ok-ones.ensures ∙ ap (column 0) c.deref-3.ensures.value in
    let zeros_is = c.in_ok-zeros.ensures ∙ ap (column 0) c.deref-4.ensures.value in
    let plus = c.in_ok-plus.plus in
    let minus = c.in_ok-minus.minus in
    let up_is = c.in_ok-up.ensures ∙ ap (column 0) c.deref.ensures.value in
    let down_is = c.in_ok-down.ensures ∙ ap (column 0) c.deref-2.ensures.value in
    let rising = rw c.deref-5.ensures.value at c.in_ok-plus.ensures in
    let falling = rw c.deref-6.ensures.value at c.in_ok-minus.ensures in
    let are = are_sets_alone g words ones zeros plus minus c.requires.graph c.requires.words ones_is zeros_is
    c.in_default.ensures c.in_default-first_settled_at_both.ensures rising falling in
    let stays = rw (up_is, down_is) at c.in_default-first_leaving.ensures in (
      sets_of ones zeros plus minus,
      are,
      stays,
      inr (λ some. true≢false (sym (c.has_some-2.ensures.1 some) ∙ c.if-not-has_some-2.true)),
    )

pub returns-clause-partition : goal.returns-clause-partition
returns-clause-partition c =
    let g = c.args.graph.now in
    let words = c.args.words.now in
    let ones = c.in_ok-ones.ones in
    let zeros = c.in_ok-zeros.zeros in
    let ones_is = c.in_ok-ones.ensures ∙ ap (column 0) c.deref-3.ensures.value in
    let zeros_is = c.in_ok-zeros.ensures ∙ ap (column 0) c.deref-4.ensures.value in
    let plus = c.in_ok-plus.plus in
    let minus = c.in_ok-minus.minus in
    let up_is = c.in_ok-up.ensures ∙ ap (column 0) c.deref.ensures.value in
    let down_is = c.in_ok-down.ensures ∙ ap (column 0) c.deref-2.ensures.value in
    let rising = rw c.deref-5.ensures.value at c.in_ok-plus.ensures in
    let falling = rw c.deref-6.ensures.value at c.in_ok-minus.ensures in
    let are = are_sets_alone g words ones zeros plus minus c.requires.graph c.requires.words ones_is zeros_is
    c.in_default.ensures c.in_default-first_settled_at_both.ensures rising falling in
    let stays = rw (up_is, down_is) at c.in_default-first_leaving.ensures in
    is_partition g (forced_in (column 0 words.up.items) (column 0 words.down.items)) ones zeros plus minus
    c.in_ok-list.list.items are stays (c.has_some.ensures.0 c.if-not-has_some.false)
    (c.has_some-2.ensures.0 c.if-not-has_some-2.false) c.in_ok-list.ensures.size c.in_ok-list.ensures.each
