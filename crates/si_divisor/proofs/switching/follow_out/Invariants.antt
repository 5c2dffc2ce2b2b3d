use Rattle.si_divisor.specs.Loops.ManySwitching.{BelongsTo, Grows}
use Rattle.si_divisor.proofs.SwitchTurns.{DoneTo, GoesOn}
use Rattle.si_divisor.proofs.switching.follow_out.Given as goal

abbrev pub invariant-loop-arc : goal.invariant-loop-arc
invariant-loop-arc l = record {
  grows : Grows (BelongsTo l.graph l.highs) l.fn.work l.work;
  done : DoneTo (GoesOn l.graph l.highs l.sets l.fn.work) l.arc-items l.arc-index l.work;
}
