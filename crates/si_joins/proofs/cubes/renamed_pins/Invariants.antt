use Rattle.std.proofs.Common.{◌≡◌, take}
use Rattle.si_joins.specs.Gates.{renamed_pins}
use Rattle.si_joins.proofs.cubes.renamed_pins.Given as goal

abbrev pub invariant-loop-literal : goal.invariant-loop-literal
invariant-loop-literal l = l.pins.items ≡ renamed_pins l.to l.n (take l.literal-index l.literals)
