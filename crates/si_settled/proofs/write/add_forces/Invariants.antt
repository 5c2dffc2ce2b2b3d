use Rattle.std.proofs.Common.{◌≡◌, ◌++◌}
use Rattle.si_settled.proofs.TextLemmas.{forces_from}
use Rattle.si_settled.proofs.write.add_forces.Given as goal

abbrev pub invariant-loop-z : goal.invariant-loop-z
invariant-loop-z l = l.text ++ forces_from l.signals l.start l.forced l.z-index
    ≡ l.initial.text ++ forces_from l.signals l.start l.forced 0
