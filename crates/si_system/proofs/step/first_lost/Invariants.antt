use Rattle.std.proofs.Common.{ℕ, ◌<◌}
use Rattle.si_system.specs.Verdict.{Loses}
use Rattle.si_system.proofs.step.first_lost.Given as goal

abbrev pub invariant-loop-k : goal.invariant-loop-k
invariant-loop-k l = (u : ℕ) → u < l.k → Loses l.netlist l.before l.after l.fired u → ⊥
