use Rattle.std.proofs.Common.{◌≡◌, ◌++◌, drop, map}
use Rattle.si_base.specs.Words.{text_of}
use Rattle.si_wave.specs.Dump.{wire_line}
use Rattle.si_wave.specs.Wave.{wires_from}
use Rattle.si_wave.proofs.write.add_wires.Given as goal

abbrev pub invariant-loop-i : goal.invariant-loop-i
invariant-loop-i l = l.text ++ text_of (map wire_line (wires_from l.i (drop l.i l.signals)))
    ≡ l.initial.text ++ text_of (map wire_line (wires_from 0 l.signals))
