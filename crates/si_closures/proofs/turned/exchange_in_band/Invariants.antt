use Rattle.si_closures.proofs.TurnedLemmas.{AreExchangedBelow}
use Rattle.si_closures.proofs.turned.exchange_in_band.Given as goal

abbrev pub invariant-loop-s : goal.invariant-loop-s
invariant-loop-s l = AreExchangedBelow l.width l.low l.fn.rows l.first l.s l.rows
