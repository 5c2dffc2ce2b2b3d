use Rattle.std.proofs.Common.{◌≡◌, ◌++◌, drop, filter_map}
use Rattle.si_from_equations.specs.Sums as spec
use Rattle.si_from_equations.proofs.products.add_products.Given as goal

abbrev pub invariant-loop-other : goal.invariant-loop-other
invariant-loop-other l =
    l.sum.items ++ filter_map (spec.product l.cube) (drop l.other-index l.others)
    ≡ l.fn.sum.items ++ filter_map (spec.product l.cube) l.others
