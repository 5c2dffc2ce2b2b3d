use Rattle.std.proofs.Common.{◌≡◌, ◌++◌}
use Rattle.si_equations.proofs.WritingLemmas.{names_from}
use Rattle.si_equations.proofs.write.add_names.Given as goal

abbrev pub invariant-loop-signal : goal.invariant-loop-signal
invariant-loop-signal l =
    l.text ++ names_from l.kind l.signals l.signal-index ≡ l.initial.text ++ names_from l.kind l.signals 0
