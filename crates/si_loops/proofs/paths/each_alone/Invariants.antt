use Rattle.std.proofs.Common.{◌≡◌, map}
use Rattle.std.specs.List.{range_with_len}
use Rattle.si_base.specs.Bits.{flip}
use Rattle.si_loops.proofs.paths.each_alone.Given as goal

abbrev pub invariant-loop-s : goal.invariant-loop-s
invariant-loop-s l = l.words.items ≡ map (flip 0) (range_with_len 0 l.s)
