use Rattle.std.proofs.Common.{◌-◌, length}
use Rattle.si_base.specs.Limits.{max_signals}
use Rattle.si_insert.proofs.LineageTraceLength.{Leads}
use Rattle.si_resolve.specs.Trace.{InsertsCandidate}
use Rattle.si_resolve.proofs.resolve.resolve.Given as goal

abbrev pub invariant-loop-resolved : goal.invariant-loop-resolved
invariant-loop-resolved l = Leads InsertsCandidate l.fn.lineage l.lineage

abbrev pub decreases-loop-resolved : goal.decreases-loop-resolved
decreases-loop-resolved l = max_signals - length l.lineage.current.coded.graph.signals
