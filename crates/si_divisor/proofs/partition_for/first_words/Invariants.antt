use Rattle.std.proofs.Common.{◌≡◌, take}
use Rattle.si_closures.specs.Loops.WordSearch.{column}
use Rattle.si_divisor.proofs.partition_for.first_words.Given as goal

abbrev pub invariant-loop-s : goal.invariant-loop-s
invariant-loop-s l = column 0 l.words.items ≡ take l.s l.set
