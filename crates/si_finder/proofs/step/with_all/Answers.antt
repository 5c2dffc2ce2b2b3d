use Rattle.std.proofs.Common.{◌≡◌, List, Some, length, slice_get, get_or, sym, ap, ◌∙◌, arith}
use Rattle.std.proofs.lemmas.Option.{slice_get-get_or}
use Rattle.std.proofs.lemmas.Result.{err_from_is_err_and}
use Rattle.si_base.specs.Codes.{CodedGraph}
use Rattle.si_base.specs.declared.graph.Signal.{Signal}
use Rattle.si_base.specs.Graph.{StateGraph}
use Rattle.si_audit.proofs.WalkSignals.{none_inserted}
use Rattle.si_finder.proofs.StepLemmas.{all_found, begins, ends_there, goes_on, next_free, next_named}
use Rattle.si_finder.proofs.step.with_all.Goals as goal

pub start-requires : goal.start-requires
start-requires c = none_inserted c.args.graph c.args.netlist.now c.requires.lists

pub loop-z-init : goal.loop-z-init
loop-z-init c =
    let given = ap (length {A = Signal}) (c.signals-given.ensures
    ∙ ap (λ (g : StateGraph). g.signals) c.graph.ensures.same
    ∙ ap (λ (d : CodedGraph). d.graph.signals) c.coded.ensures.same) in
    begins c.args.graph c.args.netlist.now (length c.signals-given.result.now) c.in-Ok.begun
    c.signals-signals.ensures.netlist c.requires.lists given c.in-Ok.ensures.line

pub with_next-requires-clause-next : goal.with_next-requires-clause-next
with_next-requires-clause-next c =
    let n = c.args.netlist.now in
    let z = c.loop-z.z in
    let signals = c.signals-signals.result.now in
    let x = get_or signals z c.index-signals-z.result in
    let size = ap (length {A = Signal}) c.signals-signals.ensures.signals in
    let at : slice_get n.signals z ≡ Some x =
    ap (λ (xs : List Signal). slice_get xs z) (sym c.signals-signals.ensures.signals)
    ∙ slice_get-get_or signals z c.index-signals-z.result c.loop-z-test.true in
    next_named c.args.graph n z c.loop-z.lineage c.loop-z.invariant (omega (arith, size, c.loop-z-test.true)) x at

pub with_next-requires-clause-new : goal.with_next-requires-clause-new
with_next-requires-clause-new c =
    let n = c.args.netlist.now in
    let z = c.loop-z.z in
    let signals = c.signals-signals.result.now in
    let x = get_or signals z c.index-signals-z.result in
    let size = ap (length {A = Signal}) c.signals-signals.ensures.signals in
    let at : slice_get n.signals z ≡ Some x =
    ap (λ (xs : List Signal). slice_get xs z) (sym c.signals-signals.ensures.signals)
    ∙ slice_get-get_or signals z c.index-signals-z.result c.loop-z-test.true in
    next_free c.args.graph n z c.loop-z.lineage c.loop-z.invariant (omega (arith, size, c.loop-z-test.true))
    c.signals-signals.ensures.netlist x at

pub loop-z-preserved : goal.loop-z-preserved
loop-z-preserved c =
    let size = ap (length {A = Signal}) c.signals-signals.ensures.signals in
    goes_on c.args.graph c.args.netlist.now c.loop-z.z c.loop-z.lineage c.loop-z.invariant
    (omega (arith, size, c.loop-z-test.true)) c.in_ok-lineage.lineage c.in_ok-lineage.ensures.found

pub returns-in_err-lineage-clause-stops : goal.returns-in_err-lineage-clause-stops
returns-in_err-lineage-clause-stops c =
    let size = ap (length {A = Signal}) c.signals-signals.ensures.signals in
    let p = err_from_is_err_and c.from_residual.result c.from_residual.ensures.1 in
    rw (p.1, p.2) (ends_there c.args.graph c.args.netlist.now c.loop-z.z c.loop-z.lineage c.loop-z.invariant
    (omega (arith, size, c.loop-z-test.true)) c.in_err-lineage.field-0.0 c.in_err-lineage.ensures.stops)

pub returns-clause-found : goal.returns-clause-found
returns-clause-found c =
    let size = ap (length {A = Signal}) c.signals-signals.ensures.signals in
    all_found c.args.graph c.args.netlist.now c.loop-z.z c.loop-z.lineage c.loop-z.invariant
    (omega (arith, size, c.loop-z-test.false))
