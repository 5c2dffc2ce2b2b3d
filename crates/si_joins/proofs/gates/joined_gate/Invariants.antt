use Rattle.std.proofs.Common.{◌≡◌, drop, map, vec_items}
use Rattle.si_joins.specs.Gates.{joined_gate}
use Rattle.si_joins.proofs.gates.joined_gate.Given as goal

abbrev pub invariant-loop-i : goal.invariant-loop-i
invariant-loop-i l = joined_gate l.n (drop l.i l.parts) (drop l.i (map vec_items l.tos)) l.k
    ≡ joined_gate l.n l.parts (map vec_items l.tos) l.k
