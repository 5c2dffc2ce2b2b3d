use Rattle.si_checks.proofs.ByCodesLemmas.{AreInputsBelow}
use Rattle.si_checks.proofs.by_codes.inputs_of.Given as goal

abbrev pub invariant-loop-k : goal.invariant-loop-k
invariant-loop-k l = AreInputsBelow l.graph.signals l.k l.inputs
