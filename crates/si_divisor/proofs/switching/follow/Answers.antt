use Rattle.si_closures.specs.Loops.WordSearch.{column, HasBit}
use Rattle.si_divisor.specs.Loops.ManySwitching.{BelongsTo}
use Rattle.si_divisor.proofs.SwitchTurns.{grows_both, marked_on, on_later, turn_done, turn_on}
use Rattle.si_divisor.proofs.switching.follow.Goals as goal

pub follow_out-requires : goal.follow_out-requires
follow_out-requires c =
    turn_on c.args.graph.now c.args.highs.now c.args.sets c.args.x c.args.work.now c.follow_into.new.work
    c.follow_into.ensures.grows c.requires

pub returns-clause-grows : goal.returns-clause-grows
returns-clause-grows c =
    let B = BelongsTo c.args.graph.now c.args.highs.now in
    grows_both B B B c.args.work.now c.follow_into.new.work c.follow_out.new.work (λ k t b. b) (λ k t b. b)
    c.follow_into.ensures.grows c.follow_out.ensures.grows

pub returns-clause-done : goal.returns-clause-done
returns-clause-done c k t has follows =
    let g = c.args.graph.now in
    let highs = c.args.highs.now in
    let old = c.args.work.now in
    let mid = c.follow_into.new.work in
    let new = c.follow_out.new.work in
    turn_done g (column k highs) (column k old.words) c.args.x (HasBit new.words k)
    (λ a there into u back. c.follow_out.ensures.grows.grows k u
    (c.follow_into.ensures.done a there into k u has back))
    (λ a there from on. c.follow_out.ensures.done a there from k has (on_later g (column k highs)
    (column k old.words) (column k mid.words)
    (marked_on (BelongsTo g highs) old mid c.follow_into.ensures.grows k) a on)) t follows
