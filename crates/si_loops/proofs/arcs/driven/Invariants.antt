use Rattle.std.proofs.Common.{◌≡◌, ◌<◌, All}
use Rattle.si_base.specs.Graph.{IsNonInput}
use Rattle.si_base.specs.Limits.{max_signals}
use Rattle.si_loops.proofs.ArcLemmas.{gated_before}
use Rattle.si_loops.proofs.arcs.driven.Given as goal

abbrev pub invariant-loop-z : goal.invariant-loop-z
invariant-loop-z l = record {
  signals : l.driven.items ≡ gated_before l.signals l.z;
  gates : All (λ z. IsNonInput l.signals z × (z < max_signals)) l.driven.items;
}
