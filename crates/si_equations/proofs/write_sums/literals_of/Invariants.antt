use Rattle.std.proofs.Common.{◌≡◌, ◌-◌, ◌++◌}
use Rattle.si_equations.proofs.LiteralLemmas.{literals_left}
use Rattle.si_equations.proofs.write_sums.literals_of.Given as goal

abbrev pub invariant-loop-at : goal.invariant-loop-at
invariant-loop-at l = l.literals.items ++ literals_left l.cube-inside.care l.cube-inside.value l.at
    ≡ literals_left l.cube-inside.care l.cube-inside.value 0

abbrev pub decreases-loop-at : goal.decreases-loop-at
decreases-loop-at l = 128 - l.at
