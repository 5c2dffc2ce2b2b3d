use Rattle.std.proofs.Common.{◌≡◌, ◌+◌, ◌++◌, drop, flat_map}
use Rattle.si_base.specs.Words.{text_of}
use Rattle.si_wave.specs.Dump.{moment_lines}
use Rattle.si_wave.specs.Wave.{moments_from}
use Rattle.si_wave.proofs.write.add_moments.Given as goal

abbrev pub invariant-loop-k : goal.invariant-loop-k
invariant-loop-k l = l.text ++ text_of (flat_map moment_lines (moments_from (l.k + 1) (drop l.k l.events)))
    ≡ l.initial.text ++ text_of (flat_map moment_lines (moments_from 1 l.events))
