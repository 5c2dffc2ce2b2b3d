use Rattle.std.proofs.Common.{◌≡◌, ◌++◌}
use Rattle.si_cube.proofs.WriteSumsLemmas.{literals_left}
use Rattle.si_cube.proofs.write_sums.add_cube_literals.Given as goal

abbrev pub invariant-loop-i : goal.invariant-loop-i
invariant-loop-i l = l.text ++ literals_left l.signals l.cube-inside.care l.cube-inside.value l.i
    ≡ l.initial.text ++ literals_left l.signals l.cube-inside.care l.cube-inside.value 0
