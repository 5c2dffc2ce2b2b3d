use Rattle.std.proofs.Common.{◌≡◌, ◌++◌, map, take, drop}
use Rattle.si_loops.specs.Loops.Paths.{led_on}
use Rattle.si_loops.proofs.paths.lead_on.Given as goal

abbrev pub invariant-loop-s : goal.invariant-loop-s
invariant-loop-s l =
    l.words ≡ map (led_on l.from l.beyond) (take l.s l.initial.words) ++ drop l.s l.initial.words
