use Rattle.std.proofs.Common.{ℕ, ◌<◌, ◌≤◌}
use Rattle.si_certify_equations.specs.Starts.{FitsNone, started_on}
use Rattle.si_certify_equations.proofs.starts.spelled_later.Given as goal

abbrev pub invariant-loop-values : goal.invariant-loop-values
invariant-loop-values l = record {
  some : 1 ≤ l.values;
  none : (less : ℕ) → less < l.values → FitsNone l.graph (started_on l.graph l.netlist less);
}
