use Rattle.si_divisor.specs.Loops.ManySwitching.{BelongsTo}
use Rattle.si_divisor.proofs.SwitchTurns.{turn_on, grows_both, source_grows, back_done}
use Rattle.si_divisor.proofs.switching.follow_back.Goals as goal

pub reach_beside-requires-clause-turn : goal.reach_beside-requires-clause-turn
reach_beside-requires-clause-turn c =
    turn_on c.args.graph.now c.args.highs.now c.args.sets c.args.arc.now.to c.args.work.now c.reach_before.new.work
    (source_grows c.args.graph.now c.args.highs.now c.args.sets c.args.arc.now c.args.work.now c.reach_before.new.work
    c.requires.arc c.requires.turn.have c.requires.turn.belong c.reach_before.ensures) c.requires.turn

pub returns-clause-grows : goal.returns-clause-grows
returns-clause-grows c =
    let B = BelongsTo c.args.graph.now c.args.highs.now in
    grows_both B B B c.args.work.now c.reach_before.new.work c.reach_beside.new.work (λ k t b. b) (λ k t b. b)
    (source_grows c.args.graph.now c.args.highs.now c.args.sets c.args.arc.now c.args.work.now c.reach_before.new.work
    c.requires.arc c.requires.turn.have c.requires.turn.belong c.reach_before.ensures) c.reach_beside.ensures.grows

pub returns-clause-done : goal.returns-clause-done
returns-clause-done c =
    back_done c.args.graph.now c.args.highs.now c.args.sets c.args.arc.now c.args.work.now c.reach_before.new.work
    c.reach_beside.new.work c.reach_before.ensures c.reach_beside.ensures.grows c.reach_beside.ensures.done
