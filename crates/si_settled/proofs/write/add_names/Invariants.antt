use Rattle.std.proofs.Common.{◌≡◌, ◌++◌}
use Rattle.si_settled.proofs.TextLemmas.{names_from}
use Rattle.si_settled.proofs.write.add_names.Given as goal

abbrev pub invariant-loop-z : goal.invariant-loop-z
invariant-loop-z l = l.text ++ names_from l.signals l.these l.z-index ≡ l.initial.text ++ names_from l.signals l.these 0
