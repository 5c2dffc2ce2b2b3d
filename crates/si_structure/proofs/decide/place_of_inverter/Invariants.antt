use Rattle.std.proofs.Common.{ℕ, ◌<◌, get_or}
use Rattle.std.specs.Bool.{IsFalse}
use Rattle.si_cell.specs.Library.{Cell}
use Rattle.si_structure.specs.StructureText.{is_inverter}
use Rattle.si_structure.proofs.decide.place_of_inverter.Given as goal

abbrev pub invariant-loop-k : goal.invariant-loop-k
invariant-loop-k l = (j : ℕ) (d : Cell) → j < l.k → IsFalse (is_inverter (get_or l.cells j d))
