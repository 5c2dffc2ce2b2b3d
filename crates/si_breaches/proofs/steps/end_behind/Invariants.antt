use Rattle.std.proofs.Common.{take}
use Rattle.si_checks.specs.Loops.Searches.{IsFirstOrNone}
use Rattle.si_breaches.specs.Loops.Steps.{IsEndBehind}
use Rattle.si_told.specs.All.{number_place}
use Rattle.si_breaches.proofs.steps.end_behind.Given as goal

abbrev pub invariant-loop-x : goal.invariant-loop-x
invariant-loop-x l = IsFirstOrNone number_place (IsEndBehind l.graph (take l.x-index l.arcs) l.e l.low) l.least
