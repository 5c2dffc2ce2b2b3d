use Rattle.std.proofs.Common.{sym, subst}
use Rattle.si_insert.proofs.LineageTraceLength.{Leads, leads_on}
use Rattle.si_resolve.specs.Trace.{InsertsCandidate}
use Rattle.si_resolve.proofs.resolve.resolve.Goals as goal

pub loop-resolved-preserved : goal.loop-resolved-preserved
loop-resolved-preserved c =
    let start = c.args.lineage in
    let now = c.in-Err.unresolved in
    let next = c.in_ok-lineage-in-Err.ensures.extended in
    let so : Leads InsertsCandidate start now =
    subst (Leads InsertsCandidate start) (sym c.in-Err.ensures.back) c.loop-resolved.invariant in
    leads_on InsertsCandidate start now c.in_ok-lineage-in-Err.lineage next.0 so next.1 next.2 next.3
