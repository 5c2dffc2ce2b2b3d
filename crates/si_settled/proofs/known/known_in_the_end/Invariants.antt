use Rattle.std.proofs.Common.{ℕ, ◌<◌, List, All, length}
use Rattle.si_base.specs.Graph.{IsNonInput}
use Rattle.si_base.specs.Limits.{max_signals}
use Rattle.si_netlist.specs.Reads.{MarksExactly}
use Rattle.si_settled.specs.Settling.{is_among}
use Rattle.si_settled.proofs.ForcedLemmas.{Going}
use Rattle.si_settled.proofs.known.known_in_the_end.Given as goal

abbrev pub invariant-loop-k : goal.invariant-loop-k
invariant-loop-k l = record {
  gates : All (IsNonInput l.netlist.signals) l.left.items;
  narrow : All (λ z. z < max_signals) l.left.items;
  going : (signals : List ℕ) → MarksExactly (is_among signals) l.fn.held
      → Going l.netlist signals l.left.items l.known;
}

abbrev pub decreases-loop-k : goal.decreases-loop-k
decreases-loop-k l = length l.left.items
