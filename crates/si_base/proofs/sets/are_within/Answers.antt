use Rattle.std.proofs.Common.{refl, sym}
use Rattle.std.proofs.lemmas.Bool.{true≢false}
use Rattle.si_base.proofs.SetsAsWords.{flags_within, words_within, all_within}
use Rattle.si_base.proofs.sets.are_within.Goals as goal

pub returns-then-words-k : goal.returns-then-words-k
returns-then-words-k c = (
  λ is. absurd (true≢false (sym is)),
  λ are. absurd (c.if-words-k.true (words_within c.args.words.now c.args.others.now (λ k. (c.type_inv.words k).fits)
      (λ k. (c.type_inv.others k).fits) are c.loop-k.k)),
)

pub returns : goal.returns
returns c = (
  λ is. flags_within c.args.words.now c.args.others.now
      (all_within c.args.words.now c.args.others.now c.loop-k.k c.requires c.loop-k-test.false c.loop-k.invariant),
  λ are. refl,
)
