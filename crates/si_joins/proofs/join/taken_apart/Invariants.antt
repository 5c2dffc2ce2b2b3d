use Rattle.std.proofs.Common.{◌≡◌, map}
use Rattle.si_joins.proofs.join.taken_apart.Given as goal

abbrev pub invariant-loop-part : goal.invariant-loop-part
invariant-loop-part l = (l.given.items ≡ map (λ p. p.given) l.yielded)
    × ((l.coded.items ≡ map (λ p. p.part) l.yielded) × (l.netlists.items ≡ map (λ p. p.netlist) l.yielded))
