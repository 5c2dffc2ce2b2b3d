use Rattle.std.specs.BTreeMap.{get}
use Rattle.si_kin.specs.Loops.Alike.{likeness_cmp}
use Rattle.si_kin.proofs.AlikeLemmas.{AreKnown}
use Rattle.si_kin.proofs.alike.first_alike.Given as goal

abbrev pub invariant-loop-k : goal.invariant-loop-k
invariant-loop-k l = AreKnown l.coded l.classes l.k l.firsts.items (λ q. get likeness_cmp l.known q)
