use Rattle.std.proofs.Common.{◌<◌, ◌∙◌, length, get_or, length-set, refl, sym, subst}
use Rattle.std.proofs.Common.{bit_or}
use Rattle.si_candidates.proofs.AskLemmas.{one_given}
use Rattle.si_candidates.proofs.intervals.give.Goals as goal

pub loop-s-preserved : goal.loop-s-preserved
loop-s-preserved c =
    let words = c.loop-s.words in
    let x = c.s-item.result in
    let bits = c.args.bits in
    let below : x < length c.args.words.now =
    subst (λ t. t < length c.args.words.now) (sym c.s-item.is) (c.requires c.loop-s.s-index x c.loop-s-test.true) in
    let within : x < length words =
    subst (λ n. x < n) (sym c.loop-s.invariant.size) below in
    rw c.s.view_is (record {
      size = length-set words x (bit_or (get_or words x 0) bits) ∙ c.loop-s.invariant.size;
      given = one_given c.args.words.now c.args.states.now words bits c.loop-s.s-index x (get_or words x 0)
          c.loop-s-test.true c.s-item.is within refl c.loop-s.invariant.given;
    })
