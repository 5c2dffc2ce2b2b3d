use Rattle.std.proofs.Common.{◌≡◌, ◌≤◌, ◌+◌, ◌*◌, ◌++◌, drop, map, vec_items}
use Rattle.si_joins.specs.Gates.{all_places}
use Rattle.si_joins.proofs.places.all_places.Given as goal

abbrev pub invariant-loop-part : goal.invariant-loop-part
invariant-loop-part l =
    (map vec_items l.tos.items ++ all_places l.whole l.next (drop l.part-index l.parts)
    ≡ all_places l.whole l.first l.parts) × (l.next ≤ l.first + 128 * l.part-index)
