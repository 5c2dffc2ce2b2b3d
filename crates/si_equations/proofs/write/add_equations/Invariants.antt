use Rattle.std.proofs.Common.{◌≡◌, ◌++◌, map}
use Rattle.si_netlist.specs.Loops.Parts.{gate_seen}
use Rattle.si_equations.proofs.WritingLemmas.{lines_from}
use Rattle.si_equations.proofs.write.add_equations.Given as goal

abbrev pub invariant-loop-signal : goal.invariant-loop-signal
invariant-loop-signal l = l.text ++ lines_from l.signals l.signal-index (map gate_seen l.gates)
    ≡ l.initial.text ++ lines_from l.signals 0 (map gate_seen l.initial.gates)
