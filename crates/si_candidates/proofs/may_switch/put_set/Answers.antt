use Rattle.std.proofs.Common.{◌<◌, length, get_or, refl, sym, subst, arith}
use Rattle.si_base.specs.Sets.{IsFirstFrom}
use Rattle.si_graph.proofs.SearchLemmas.{in_below}
use Rattle.si_candidates.proofs.MaySwitchWords.{put_next}
use Rattle.si_candidates.proofs.may_switch.put_set.Goals as goal

pub loop-s-preserved : goal.loop-s-preserved
loop-s-preserved c =
    let words = c.loop-s.words in
    let set = c.args.set.now in
    let at = c.loop-s.at in
    let s = c.s.inside.0 in
    let next : IsFirstFrom set at s = subst (λ t. IsFirstFrom set at t) (sym c.s.view_is) c.in-Some.ensures in
    let in_set : s < length set = in_below set s next.inside in
    let inside : s < length words = omega (arith, in_set, c.requires.size, c.loop-s.auto.words) in (
      omega (arith, in_set),
      put_next words c.args.k s (get_or words s 0) c.requires.few inside refl c.args.words.now set at next
          c.loop-s.invariant.1,
    )
