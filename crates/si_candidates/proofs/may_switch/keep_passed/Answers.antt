use Rattle.std.proofs.Common.{◌<◌, ◌∙◌, ℕ, List, length, get_or, subst, arith}
use Rattle.si_base.specs.Sets.{IsIn}
use Rattle.si_candidates.specs.Blocking.{MayPass}
use Rattle.si_candidates.specs.Loops.ManySets.{TellsOf}
use Rattle.si_candidates.proofs.MaySwitchWords.{one_list_more, list_is}
use Rattle.si_candidates.proofs.may_switch.keep_passed.Goals as goal

pub loop-b-preserved : goal.loop-b-preserved
loop-b-preserved c =
    let g = c.args.graph.now in
    let lists = c.args.lists.now in
    let arc = c.args.arc.now in
    let b = c.loop-b.b in
    let next = c.those_that_pass.result in
    let there : b < length lists = omega (arith, c.loop-b-test.true) in
    let is = c.words.ensures ∙ list_is lists b c.index-lists-b.result there c.index-lists-b.is in
    let here = subst (λ (words : List ℕ). TellsOf (get_or c.loop-b.may b 0) words
    (λ set. IsIn set arc.from → MayPass g (IsIn set) arc) next) is c.those_that_pass.ensures in
    one_list_more g lists arc c.args.may.now c.loop-b.may b next (omega (arith, there, c.requires.count))
    c.loop-b.invariant here
