use Rattle.std.proofs.Common.{refl, sym}
use Rattle.std.proofs.lemmas.Bool.{true≢false}
use Rattle.si_base.proofs.SetsAsWords.{flags_apart, words_apart, all_apart}
use Rattle.si_base.proofs.sets.are_apart.Goals as goal

pub returns-then-words-k-ne0 : goal.returns-then-words-k-ne0
returns-then-words-k-ne0 c = (
  λ is. absurd (true≢false (sym is)),
  λ are. absurd (c.if-words-k-ne0.true (words_apart c.args.words.now c.args.others.now
      (λ k. (c.type_inv.words k).fits) are c.loop-k.k)),
)

pub returns : goal.returns
returns c = (
  λ is. flags_apart c.args.words.now c.args.others.now
      (all_apart c.args.words.now c.args.others.now c.loop-k.k c.loop-k-test.false c.loop-k.invariant),
  λ are. refl,
)
