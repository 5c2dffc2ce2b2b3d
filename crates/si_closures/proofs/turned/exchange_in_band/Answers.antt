use Rattle.si_closures.proofs.TurnedLemmas.{one_pair_more}
use Rattle.si_closures.proofs.turned.exchange_in_band.Goals as goal

pub loop-s-preserved : goal.loop-s-preserved
loop-s-preserved c =
    one_pair_more c.args.width c.args.low c.args.rows.now c.args.first c.loop-s.s c.loop-s.rows
    c.exchange_in_rows.new.rows c.loop-s-test.true c.loop-s.invariant c.exchange_in_rows.ensures.size
    c.exchange_in_rows.ensures.pair c.exchange_in_rows.ensures.others
