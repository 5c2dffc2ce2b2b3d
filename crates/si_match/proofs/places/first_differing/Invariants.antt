use Rattle.std.proofs.Common.{ℕ, ◌<◌}
use Rattle.si_match.specs.Loops.Places.{AgreesAt}
use Rattle.si_match.proofs.places.first_differing.Given as goal

abbrev pub invariant-loop-s : goal.invariant-loop-s
invariant-loop-s l = (s : ℕ) → s < l.s → AgreesAt l.coded l.z l.chosen l.table s
