use Rattle.std.proofs.Common.{◌≡◌, map, take}
use Rattle.si_structure.specs.StructureText.{input}
use Rattle.si_structure.proofs.cells.inputs_of.Given as goal

abbrev pub invariant-loop-name : goal.invariant-loop-name
invariant-loop-name l = l.inputs.items ≡ map input (take l.name-index l.names)
