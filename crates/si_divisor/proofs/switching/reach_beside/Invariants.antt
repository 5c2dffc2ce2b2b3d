use Rattle.si_divisor.specs.Loops.ManySwitching.{BelongsTo, Grows}
use Rattle.si_divisor.proofs.SwitchTurns.{DoneTo, PassesBeside}
use Rattle.si_divisor.proofs.switching.reach_beside.Given as goal

abbrev pub invariant-loop-beside : goal.invariant-loop-beside
invariant-loop-beside l = record {
  grows : Grows (BelongsTo l.graph l.highs) l.fn.work l.work;
  done : DoneTo (PassesBeside l.graph l.high l.fn.work l.arc) l.beside-items l.beside-index l.work;
}
