use Rattle.std.proofs.Common.{◌≡◌, ℕ, ◌↔◌, false, take}
use Rattle.si_base.specs.Bits.{bit}
use Rattle.si_graph.specs.Loops.Values.{SuitAll}
use Rattle.si_graph.proofs.values.wrong_signals.Given as goal

abbrev pub invariant-loop-arc : goal.invariant-loop-arc
invariant-loop-arc l = (a : ℕ) → (bit l.wrong a ≡ false) ↔ SuitAll (take l.arc-index l.arcs) l.codes a
