use Rattle.std.proofs.Common.{take}
use Rattle.si_match.proofs.DifferenceLemmas.{AreBetween}
use Rattle.si_match.proofs.differences.differences.Given as goal

abbrev pub invariant-loop-code : goal.invariant-loop-code
invariant-loop-code l = AreBetween (take l.code-index l.code-items) l.off.items l.triggers l.differences.items
