use Rattle.std.proofs.Common.{◌≡◌, ◌++◌, drop}
use Rattle.si_from_equations.specs.Sums as spec
use Rattle.si_from_equations.proofs.products.products.Given as goal

abbrev pub invariant-loop-cube : goal.invariant-loop-cube
invariant-loop-cube l =
    l.sum.items ++ spec.products (drop l.cube-index l.left) l.right ≡ spec.products l.left l.right
