use Rattle.std.proofs.Common.{◌≡◌, ℕ, ◌<◌, get_or, true}
use Rattle.si_base.specs.declared.graph.Edge.{Edge}
use Rattle.si_base.specs.Graph.{enables, IsNonInput}
use Rattle.si_checks.proofs.conflicts.enables_more.Given as goal

abbrev pub invariant-loop-a : goal.invariant-loop-a
invariant-loop-a l = (k : ℕ) (d : Edge) → k < l.a-index → IsNonInput l.graph.signals (get_or l.arcs k d).event.sig
    → enables l.graph l.q (get_or l.arcs k d).event ≡ true
