use Rattle.std.proofs.Common.{◌<◌, ◌∙◌, ℕ, List, length, get_or, subst, arith}
use Rattle.std.proofs.lemmas.Bool.{true≢false}
use Rattle.si_base.specs.Sets.{IsIn}
use Rattle.si_candidates.specs.Loops.ManySets.{TellsOf, words_at}
use Rattle.si_candidates.proofs.MaySwitchWords.{list_is, one_word_tells}
use Rattle.si_candidates.proofs.may_switch.leads_out.Goals as goal

pub returns-then-those_that_stay-given : goal.returns-then-those_that_stay-given
returns-then-those_that_stay-given c =
    let lists = c.args.lists.now in
    let arc = c.args.arc.now in
    let b = c.loop-b.b in
    let given : ℕ = get_or c.args.given.now b 0 in
    let stays = c.those_that_stay.result in
    let there : b < length lists = omega (arith, c.loop-b-test.true) in
    let is = c.words.ensures ∙ list_is lists b c.index-lists-b.result there c.index-lists-b.is in
    let tells = subst (λ (words : List ℕ). TellsOf given words (λ set. IsIn set arc.from → IsIn set arc.to) stays)
    is c.those_that_stay.ensures in (
      λ never. absurd (true≢false never),
      λ all. absurd (c.if-those_that_stay-given.true (one_word_tells given (words_at lists b)
          (λ set. IsIn set arc.from → IsIn set arc.to) stays given c.those_that_stay.type_inv
          (c.type_inv.given b).fits tells (all.each b there))),
    )
