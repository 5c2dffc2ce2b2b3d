use Rattle.std.proofs.Common.{◌≡◌, ◌⊎◌, All, IfSome, IfNone, Some, None, take}
use Rattle.si_match.specs.Loops.Apart.{DifferAtRead, IsUnreadFromOne}
use Rattle.si_match.proofs.apart.fewest_from.Given as goal

abbrev pub invariant-loop-other : goal.invariant-loop-other
invariant-loop-other l = record {
  some : IfSome l.fewest (λ d. (l.fn.before ≡ Some d) ⊎ IsUnreadFromOne l.read l.one l.others d);
  before : IfNone l.fewest (l.fn.before ≡ None);
  none : IfNone l.fewest (All (DifferAtRead l.read l.one) (take l.other-index l.others));
}
