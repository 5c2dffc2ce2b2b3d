use Rattle.std.proofs.Common.{ℕ, ◌+◌, ◌<◌}
use Rattle.si_graph.specs.Loops.Arcs.{edge_at}
use Rattle.si_graph.proofs.ArcSplits.{IsSameStep}
use Rattle.si_graph.proofs.determinism.first_split.Given as goal

abbrev pub invariant-loop-k : goal.invariant-loop-k
invariant-loop-k l = (j : ℕ) → j + 1 < l.k → IsSameStep (edge_at l.graph.edges j) (edge_at l.graph.edges (j + 1)) → ⊥
