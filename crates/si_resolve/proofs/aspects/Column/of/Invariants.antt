use Rattle.std.proofs.Common.{◌≡◌, map, take}
use Rattle.si_conflicts.specs.Conflicts.{pairs_of}
use Rattle.si_resolve.specs.Loops.Aspects.{aspect_of}
use Rattle.si_resolve.proofs.aspects.Column.of.Given as goal

abbrev pub invariant-loop-pair : goal.invariant-loop-pair
invariant-loop-pair l = l.aspects.items ≡ map (aspect_of l.set l.sides) (pairs_of (take l.pair-index l.pairs))
