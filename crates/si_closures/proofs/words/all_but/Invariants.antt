use Rattle.std.proofs.Common.{◌*◌}
use Rattle.si_closures.proofs.WordLemmas.{AreLeft}
use Rattle.si_closures.proofs.words.all_but.Given as goal

abbrev pub invariant-loop-k : goal.invariant-loop-k
invariant-loop-k l = AreLeft (2 * l.signals) l.stops l.k l.words.items
