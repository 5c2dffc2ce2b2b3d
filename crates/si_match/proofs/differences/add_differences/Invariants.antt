use Rattle.std.proofs.Common.{take}
use Rattle.si_match.specs.Loops.Differences.{AreJoined}
use Rattle.si_match.proofs.differences.add_differences.Given as goal

abbrev pub invariant-loop-other : goal.invariant-loop-other
invariant-loop-other l =
    AreJoined l.fn.differences.items l.fn.code (take l.other-index l.others) l.triggers l.differences.items
