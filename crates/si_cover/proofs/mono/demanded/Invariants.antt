use Rattle.std.proofs.Common.{◌≡◌, ℕ, ◌<◌, get_or}
use Rattle.si_base.specs.declared.graph.Edge.{Edge}
use Rattle.si_cover.specs.Loops.Growing.{Demands}
use Rattle.si_cover.proofs.mono.demanded.Given as goal

abbrev pub invariant-loop-a : goal.invariant-loop-a
invariant-loop-a l = (j : ℕ) (a : Edge) → j < l.a-index → get_or l.a-items j a ≡ a
    → Demands l.graph l.qr l.cube a → ⊥
