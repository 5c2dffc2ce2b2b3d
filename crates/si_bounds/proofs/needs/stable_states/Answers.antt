use Rattle.std.proofs.Common.{◌∙◌}
use Rattle.si_bounds.proofs.NeedLists.{neither, one_high, one_low}
use Rattle.si_bounds.proofs.needs.stable_states.Goals as goal
use Rattle.si_bounds.proofs.needs.stable_states.Goals.{in-High, in-Low, in-Rising}

pub loop-s-preserved : goal.loop-s-preserved
loop-s-preserved c =
    let classes = c.args.classes.now in
    let high = c.match-classes-s.high in
    let low = c.match-classes-s.low in
    elim c.match-classes-s.branch [
      | in-High w ↦ one_high classes c.loop-s.s c.loop-s.high c.loop-s.low high low c.loop-s.invariant
          c.loop-s-test.true w.in-High.is (w.high-is ∙ w.add.ensures) w.low-is
      | in-Low w ↦ one_low classes c.loop-s.s c.loop-s.high c.loop-s.low high low c.loop-s.invariant
          c.loop-s-test.true w.in-Low.is w.high-is (w.low-is ∙ w.add-in-Low.ensures)
      | in-Rising w ↦ neither classes c.loop-s.s c.loop-s.high c.loop-s.low high low c.loop-s.invariant
          c.loop-s-test.true w.in-Rising.is w.high-is w.low-is
    ]
