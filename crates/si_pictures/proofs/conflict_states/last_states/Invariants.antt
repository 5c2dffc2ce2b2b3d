use Rattle.std.specs.BTreeMap.{get}
use Rattle.std.specs.Ordering.{nat_cmp}
use Rattle.si_pictures.specs.Loops.Representatives.{AreByCode}
use Rattle.si_pictures.proofs.conflict_states.last_states.Given as goal

abbrev pub invariant-loop-k : goal.invariant-loop-k
invariant-loop-k l = AreByCode l.graph l.k (get nat_cmp l.lasts)
