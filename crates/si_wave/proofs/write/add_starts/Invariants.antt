use Rattle.std.proofs.Common.{◌≡◌, ◌++◌, drop, map}
use Rattle.si_base.specs.Words.{text_of}
use Rattle.si_wave.specs.Dump.{change_line}
use Rattle.si_wave.specs.Wave.{starts_from}
use Rattle.si_wave.proofs.write.add_starts.Given as goal

abbrev pub invariant-loop-i : goal.invariant-loop-i
invariant-loop-i l = l.text ++ text_of (map change_line (starts_from l.i (drop l.i l.signals) l.values))
    ≡ l.initial.text ++ text_of (map change_line (starts_from 0 l.signals l.values))
