use Rattle.std.proofs.Common.{◌∙◌, sym, subst}
use Rattle.si_base.specs.Codes.{CodedGraph}
use Rattle.si_cell.specs.Library.{Library}
use Rattle.si_checks.specs.Loops.Lent.{coded_of}
use Rattle.si_circuit.specs.Cells.{AllFit, IsFirstUnfit}
use Rattle.si_insert.specs.Lineage.{ExtendsBy, History}
use Rattle.si_insert.proofs.LineageTraceLength.{leads_nowhere, leads_on}
use Rattle.si_map.specs.Ends.{ShowsStuck}
use Rattle.si_bounds.specs.Loops.Fitted.{AreFitted}
use Rattle.si_map.specs.Trace.{InsertsDivisor, IsMappingTrace}
use Rattle.si_map.proofs.map.map_cells.Goals as goal

pub circuit_of_cells-requires-clause-fit : goal.circuit_of_cells-requires-clause-fit
circuit_of_cells-requires-clause-fit c =
    let library = c.args.library.now in
    let fitted = c.fitted_signals-fitted.result in
    let fit = subst (λ (l : Library). AreFitted (coded_of c.distinct.result) l fitted) c.in-Ok.ensures
    c.fitted_signals-fitted.ensures in
    let again = subst (λ (k : CodedGraph). AreFitted k library fitted) (c.distinct.ensures ∙ sym c.distinct-in-loop-unfit.ensures)
    fit in
    subst (λ (k : CodedGraph). AllFit k library) c.distinct-in-loop-unfit.ensures (c.in_default.ensures.none library again)

pub with_best_divisor-requires-clause-fitted : goal.with_best_divisor-requires-clause-fitted
with_best_divisor-requires-clause-fitted c =
    subst (λ (k : CodedGraph). AreFitted k c.in-Ok.functions c.fitted_signals-fitted.result) c.distinct.ensures
    c.fitted_signals-fitted.ensures

pub with_best_divisor-requires-clause-unfit : goal.with_best_divisor-requires-clause-unfit
with_best_divisor-requires-clause-unfit c =
    let library = c.in-Ok.functions in
    let again = subst (λ (k : CodedGraph). AreFitted k library c.fitted_signals-fitted.result)
    (c.distinct.ensures ∙ sym c.distinct-in-loop-unfit.ensures) c.fitted_signals-fitted.ensures in
    subst (λ (k : CodedGraph). IsFirstUnfit k library c.in-Some.unfit) c.distinct-in-loop-unfit.ensures
    (c.in-Some.ensures.some library again)

pub loop-unfit-preserved : goal.loop-unfit-preserved
loop-unfit-preserved c =
    let next = rw c.in-Ok.ensures at c.in_ok-resolved.ensures.extended in
    leads_on (InsertsDivisor c.args.library.now) c.args.resolved c.loop-unfit.resolved c.in_ok-resolved.resolved next.0
    c.loop-unfit.invariant next.1 next.2 next.3

pub returns-in-Err-clause-unmapped : goal.returns-in-Err-clause-unmapped
returns-in-Err-clause-unmapped c =
    let library = c.args.library.now in
    let start = c.args.resolved in
    let so = leads_nowhere (InsertsDivisor library) start in
    let u = c.without_memory.result in
    let same = sym c.without_memory.ensures.resolved in (
      so.trace,
      subst (λ (r : History). ExtendsBy start so.trace r) same so.goes_on,
      subst (λ (r : History). IsMappingTrace library start.current so.trace r.current) same so.leads,
      subst (λ k. ShowsStuck library u.resolved.current k) (sym c.without_memory.ensures.cause) tt,
    )

pub returns-in_default-clause-mapped : goal.returns-in_default-clause-mapped
returns-in_default-clause-mapped c =
    let library = c.args.library.now in
    let start = c.args.resolved in
    let so = c.loop-unfit.invariant in
    let fitted = c.fitted_signals-fitted.result in
    let fit = subst (λ (l : Library). AreFitted (coded_of c.distinct.result) l fitted) c.in-Ok.ensures
    c.fitted_signals-fitted.ensures in
    let again = subst (λ (k : CodedGraph). AreFitted k library fitted)
    (c.distinct.ensures ∙ sym c.distinct-in-loop-unfit.ensures) fit in
    let all = subst (λ (k : CodedGraph). AllFit k library) c.distinct-in-loop-unfit.ensures
    (c.in_default.ensures.none library again) in
    let same = sym c.in_ok-circuit.ensures.same in (
      so.trace,
      subst (λ (r : History). ExtendsBy start so.trace r) same so.goes_on,
      record {
        goes = subst (λ (r : History). IsMappingTrace library start.current so.trace r.current) same so.leads;
        done = subst (λ (r : History). AllFit r.current.coded library) same all;
      },
    )
