use Rattle.si_divisor.proofs.SwitchTurns.{AreInsideTo}
use Rattle.si_divisor.proofs.switching.those_inside.Given as goal

abbrev pub invariant-loop-s : goal.invariant-loop-s
invariant-loop-s l = AreInsideTo l.given l.words l.within l.s l.kept
