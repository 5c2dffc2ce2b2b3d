use Rattle.std.proofs.Common.{take}
use Rattle.si_map.specs.Loops.Packed.{ArePacking}
use Rattle.si_map.proofs.packed.packed.Given as goal

abbrev pub invariant-loop-class : goal.invariant-loop-class
invariant-loop-class l = ArePacking (take l.class-index l.classes) l.words.items l.word
