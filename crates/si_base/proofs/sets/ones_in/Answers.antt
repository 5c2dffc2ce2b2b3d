use Rattle.std.proofs.Common.{◌*◌, ◌+◌, ◌∙◌, arith, ap, refl, sym, get_or, count_ones}
use Rattle.std.proofs.lemmas.Nat.{ones-le}
use Rattle.si_base.proofs.SetsAsWords.{word_counted, count_within}
use Rattle.si_base.proofs.sets.ones_in.Goals as goal

pub overflow_add-total : goal.overflow_add-total
overflow_add-total c =
    let words = c.args.words.now in
    let k = c.loop-word.word-index in
    omega (
      arith,
      c.requires,
      c.loop-word-test.true,
      c.loop-word.invariant,
      count_within (64 * k) words,
      ones-le 64 (get_or words k 0) (c.type_inv.words k).fits,
    )

pub loop-word-preserved : goal.loop-word-preserved
loop-word-preserved c =
    let words = c.args.words.now in
    let k = c.loop-word.word-index in
    ap (λ t. t + count_ones (get_or words k 0)) c.loop-word.invariant
    ∙ sym (word_counted words k (get_or words k 0) refl (c.type_inv.words k).fits)
