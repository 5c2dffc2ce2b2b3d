use Rattle.std.proofs.Common.{◌-◌, length}
use Rattle.si_base.specs.Limits.{max_signals}
use Rattle.si_insert.proofs.LineageTraceLength.{Leads}
use Rattle.si_map.specs.Trace.{InsertsDivisor}
use Rattle.si_map.proofs.map.map_cells.Given as goal

abbrev pub invariant-loop-unfit : goal.invariant-loop-unfit
invariant-loop-unfit l = Leads (InsertsDivisor l.fn.library) l.fn.resolved l.resolved

abbrev pub decreases-loop-unfit : goal.decreases-loop-unfit
decreases-loop-unfit l = max_signals - length l.resolved.current.coded.graph.signals
