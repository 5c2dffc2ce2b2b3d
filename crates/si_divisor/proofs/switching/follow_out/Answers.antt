use Rattle.std.proofs.Common.{refl, arith}
use Rattle.si_divisor.proofs.SwitchTurns.{done_all, out_within, out_grows, out_done}
use Rattle.si_divisor.proofs.switching.follow_out.Goals as goal

pub follow_arc-requires-clause-to : goal.follow_arc-requires-clause-to
follow_arc-requires-clause-to c =
    (out_within c.args.graph.now c.args.x c.arcs_out-arc-items.result.now c.loop-arc.arc-index c.arc-item.result
    c.arcs_out-arc-items.ensures c.loop-arc-test.true c.arc-item.is).2

pub follow_arc-requires-clause-sig : goal.follow_arc-requires-clause-sig
follow_arc-requires-clause-sig c =
    (out_within c.args.graph.now c.args.x c.arcs_out-arc-items.result.now c.loop-arc.arc-index c.arc-item.result
    c.arcs_out-arc-items.ensures c.loop-arc-test.true c.arc-item.is).1

pub loop-arc-preserved : goal.loop-arc-preserved
loop-arc-preserved c =
    let g = c.args.graph.now in
    let highs = c.args.highs.now in
    let arcs = c.arcs_out-arc-items.result.now in
    let n = c.loop-arc.arc-index in
    let a = c.arc-item.result in
    record {
      grows = out_grows g highs c.args.work.now c.loop-arc.work arcs n a c.requires.belong c.loop-arc.invariant.grows
          c.args.x c.args.sets c.arcs_out-arc-items.ensures c.loop-arc-test.true c.arc-item.is c.requires.have
          c.follow_arc.new.work c.follow_arc.ensures;
      done = out_done g highs c.args.work.now c.loop-arc.work arcs n a c.requires.belong c.loop-arc.invariant.grows
          c.args.x c.args.sets c.arcs_out-arc-items.ensures c.loop-arc-test.true c.arc-item.is c.requires.have
          c.follow_arc.new.work c.follow_arc.ensures c.loop-arc.invariant.done;
    }

pub returns-clause-done : goal.returns-clause-done
returns-clause-done c arc there from k has follows =
    done_all _ c.arcs_out-arc-items.result.now c.loop-arc.arc-index c.loop-arc.work
    (omega (arith, c.loop-arc-test.false))
    c.loop-arc.invariant.done arc ((c.arcs_out-arc-items.ensures.exactly arc).1 (there, from)) k arc.to
    (refl, has, follows)
