use Rattle.std.proofs.Common.{◌<◌, All, length}
use Rattle.si_base.specs.Limits.{max_signals}
use Rattle.si_settled.proofs.ForcedLemmas.{LeftOut}
use Rattle.si_settled.proofs.forced.forced.Given as goal

abbrev pub invariant-loop-left : goal.invariant-loop-left
invariant-loop-left l = record {
  left_out : LeftOut l.netlist l.forced.items l.left;
  forced : All (λ z. z < max_signals) l.forced.items;
  left : All (λ z. z < max_signals) l.left;
}

abbrev pub decreases-loop-left : goal.decreases-loop-left
decreases-loop-left l = length l.left
