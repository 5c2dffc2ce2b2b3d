use Rattle.std.proofs.Common.{◌≡◌, ◌++◌}
use Rattle.si_loops.proofs.TextLemmas.{cuts_from}
use Rattle.si_loops.proofs.write.add_cuts.Given as goal

abbrev pub invariant-loop-arc : goal.invariant-loop-arc
invariant-loop-arc l = l.text ++ cuts_from l.signals l.cut l.arc-index ≡ l.initial.text ++ cuts_from l.signals l.cut 0
