use Rattle.std.proofs.Common.{get_or, arith}
use Rattle.std.proofs.lemmas.List.{get_or_default}
use Rattle.si_insert.specs.declared.partition.Class.TheVariants.{Low}
use Rattle.si_joins.proofs.ReasonLemmas.{count_more}
use Rattle.si_joins.proofs.refused.count_copies.Goals as goal

pub loop-class-preserved : goal.loop-class-preserved
loop-class-preserved c =
    let classes = c.args.classes.now in
    let k = c.loop-class.class-index in
    let x = get_or classes k Low in
    let more = count_more classes k x c.loop-class-test.true (get_or_default classes k Low x c.loop-class-test.true) in
    let so_far = c.loop-class.invariant.0 in
    let low = c.loop-class.invariant.1 in
    let one = c.copies_of-count.ensures.is in
    let few = c.copies_of-count.ensures.few in
    (omega (arith, more, so_far, one), omega (arith, low, few))
