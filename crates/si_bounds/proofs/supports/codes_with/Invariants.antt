use Rattle.si_match.proofs.CodeLemmas.{CodesBefore}
use Rattle.si_bounds.proofs.supports.codes_with.Given as goal

abbrev pub invariant-loop-s : goal.invariant-loop-s
invariant-loop-s l = CodesBefore l.coded l.z l.value l.fn.signals l.s l.codes.items
