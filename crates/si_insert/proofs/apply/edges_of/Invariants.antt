use Rattle.std.proofs.Common.{◌≡◌, take}
use Rattle.std.specs.List.{flat_map}
use Rattle.si_insert.specs.GraphOfCopies.{edges_from}
use Rattle.si_insert.proofs.apply.edges_of.Given as goal

abbrev pub invariant-loop-x : goal.invariant-loop-x
invariant-loop-x l = l.edges.items ≡ flat_map (edges_from l.graph l.classes) (take l.x-index l.copies)
