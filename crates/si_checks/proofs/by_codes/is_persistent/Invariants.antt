use Rattle.std.proofs.Common.{All, take}
use Rattle.si_checks.specs.Loops.ByCodes.{LeavesOthers}
use Rattle.si_checks.proofs.by_codes.is_persistent.Given as goal

abbrev pub invariant-loop-arc : goal.invariant-loop-arc
invariant-loop-arc l = All (LeavesOthers l.coded.graph) (take l.arc-index l.arcs)
