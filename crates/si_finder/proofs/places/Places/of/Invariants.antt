use Rattle.std.proofs.Common.{◌≡◌, map}
use Rattle.si_finder.specs.Loops.Places.{key_state, stands_below}
use Rattle.si_finder.proofs.places.Places.of.Given as goal

abbrev pub invariant-loop-s : goal.invariant-loop-s
invariant-loop-s l = map key_state l.set.keys ≡ stands_below l.lineage.current l.s
