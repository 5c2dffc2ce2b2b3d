use Rattle.std.proofs.Common.{◌≡◌, true}
use Rattle.si_base.specs.Bits.{bit}
use Rattle.si_closures.specs.Loops.WordSearch.{column}
use Rattle.si_divisor.specs.Loops.SwitchRules.{IsCrossed}
use Rattle.si_divisor.specs.Loops.ManySwitching.{Grows}
use Rattle.si_divisor.proofs.SwitchTurns.{DoneTo, Crosses}
use Rattle.si_divisor.proofs.switching.cross.Given as goal

abbrev pub invariant-loop-arc : goal.invariant-loop-arc
invariant-loop-arc l = record {
  grows : Grows (λ k t. (bit l.given k ≡ true) × IsCrossed l.graph (column k l.highs) t) l.fn.work l.work;
  done : DoneTo (Crosses l.highs l.given) l.arc-items l.arc-index l.work;
}
