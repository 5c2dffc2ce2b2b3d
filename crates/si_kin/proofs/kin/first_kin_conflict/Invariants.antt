use Rattle.si_kin.proofs.FirstKin.{IsFoundTo}
use Rattle.si_kin.proofs.kin.first_kin_conflict.Given as goal

abbrev pub invariant-loop-s : goal.invariant-loop-s
invariant-loop-s l = IsFoundTo l.coded l.firsts.items l.s l.found
