use Rattle.std.proofs.Common.{◌+◌}
use Rattle.si_base.specs.Bits.{bit}
use Rattle.si_divisor.proofs.ColumnLemmas.{AreReadTo}
use Rattle.si_divisor.proofs.function.Function.forced_states.Given as goal

abbrev pub invariant-loop-values : goal.invariant-loop-values
invariant-loop-values l = record {
  low : AreReadTo l.columns l.self.signals.items (bit l.self.table) l.values l.low;
  high : AreReadTo l.columns l.self.signals.items (λ v. bit l.self.table (l.rows + v)) l.values l.high;
}
