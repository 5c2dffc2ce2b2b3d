use Rattle.si_closures.proofs.TurnedLemmas.{one_band_more}
use Rattle.si_closures.proofs.turned.exchange_quarters.Goals as goal

pub loop-p-preserved : goal.loop-p-preserved
loop-p-preserved c =
    one_band_more c.args.width c.args.low c.args.rows.now c.loop-p.p c.loop-p.rows c.exchange_in_band.new.rows
    c.loop-p.invariant c.exchange_in_band.ensures.size c.exchange_in_band.ensures.pairs
    c.exchange_in_band.ensures.others
