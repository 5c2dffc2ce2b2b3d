use Rattle.si_cell.proofs.PlacedLemmas.{InPlaced}
use Rattle.si_cell.proofs.expand.placed_cube.Given as goal

abbrev pub invariant-loop-i : goal.invariant-loop-i
invariant-loop-i l = InPlaced l.at_pins l.care l.value l.i l.made_care l.made_value
