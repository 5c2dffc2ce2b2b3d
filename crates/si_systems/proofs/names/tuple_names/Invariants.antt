use Rattle.std.proofs.Common.{◌≡◌, map, take}
use Rattle.si_systems.specs.Loops.Parts.{sgs_now}
use Rattle.si_systems.specs.Names as meaning
use Rattle.si_systems.proofs.names.tuple_names.Given as goal

abbrev pub invariant-loop-tuple : goal.invariant-loop-tuple
invariant-loop-tuple l = l.names ≡ map (meaning.tuple_name (sgs_now l.given)) (take l.tuple-index l.tuples)
