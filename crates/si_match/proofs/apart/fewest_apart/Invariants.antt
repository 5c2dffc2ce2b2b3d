use Rattle.std.proofs.Common.{All, IfSome, IfNone, take}
use Rattle.si_match.specs.Loops.Apart.{AreApart, DifferAtRead}
use Rattle.si_match.proofs.apart.fewest_apart.Given as goal

abbrev pub invariant-loop-one : goal.invariant-loop-one
invariant-loop-one l = record {
  apart : IfSome l.fewest (AreApart l.coded l.fn.z l.read);
  none : IfNone l.fewest (All (λ one. All (DifferAtRead l.read one) l.off)
      (take l.one-index l.one-items));
}
