use Rattle.si_closures.proofs.TurnedLemmas.{AreBandsExchanged}
use Rattle.si_closures.proofs.turned.exchange_quarters.Given as goal

abbrev pub invariant-loop-p : goal.invariant-loop-p
invariant-loop-p l = AreBandsExchanged l.width l.low l.fn.rows l.p l.rows
