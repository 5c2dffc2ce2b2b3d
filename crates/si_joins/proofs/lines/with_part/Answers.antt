use Rattle.std.proofs.Common.{◌≡◌, ◌∙◌, List, ℕ, Ok, length, sym, ap, subst, subst₂, arith}
use Rattle.std.proofs.lemmas.Result.{IfOk-weaker}
use Rattle.si_base.specs.Netlist.{Insertion}
use Rattle.si_insert.specs.Lineage.{History}
use Rattle.si_insert.specs.declared.lineage.TraceStep.{TraceStep}
use Rattle.si_joins.specs.Lifted.{PartView, names_in_part}
use Rattle.si_joins.specs.Loops.Parts.{AreLinesNamed, AreShown}
use Rattle.si_joins.specs.Steps.{along, with_line, with_part}
use Rattle.si_joins.proofs.LineLemmas.{lines_named, names_many}
use Rattle.si_readings.proofs.ReadingRefusals.{err_map}
use Rattle.si_refusals.specs.Ending.{MayStop}
use Rattle.si_sg.specs.GivenGraph.{sg_now}
use Rattle.si_joins.proofs.lines.with_part.Goals as goal

-- ---- over what the calls give
-- the view that is made is that of the part
made_view : (states : List (List ℕ)) (i : ℕ) (slice tuples : List (List ℕ)) (trace : List TraceStep) (l : History)
    (view : PartView) → slice ≡ tuples → trace ≡ l.trace
    → view ≡ record { names = names_in_part states i slice; before = length trace }
    → view ≡ record { names = names_in_part states i tuples; before = length l.trace }
made_view states i slice tuples trace l view same steps is =
    let make : List (List ℕ) → ℕ → PartView = λ ts n. record { names = names_in_part states i ts; before = n } in
    is ∙ ap (λ (ts : List (List ℕ)). make ts (length trace)) same
    ∙ ap (λ (ps : List TraceStep). make tuples (length ps)) steps

pub of-requires-clause-shown : goal.of-requires-clause-shown
of-requires-clause-shown c =
    subst (λ (ts : List (List ℕ)). AreShown c.args.given.now.states c.args.i ts) (sym c.deref.ensures.value)
    c.requires.shown

pub with_lines-requires-clause-named : goal.with_lines-requires-clause-named
with_lines-requires-clause-named c =
    let view = made_view c.args.given.now.states c.args.i _ _ _ c.args.lineage c.in_ok-view.view c.deref.ensures.value
    c.trace-before.ensures.same c.in_ok-view.ensures in
    ap (λ (v : PartView). length v.names) view
    ∙ names_many c.args.given.now.states c.args.i c.args.whole.now.tuples.items ∙ c.requires.tuples

pub with_lines-requires-clause-before : goal.with_lines-requires-clause-before
with_lines-requires-clause-before c =
    let view = made_view c.args.given.now.states c.args.i _ _ _ c.args.lineage c.in_ok-view.view c.deref.ensures.value
    c.trace-before.ensures.same c.in_ok-view.ensures in
    let before = ap (λ (v : PartView). v.before) view in
    omega (arith, before)

pub with_lines-requires-clause-own : goal.with_lines-requires-clause-own
with_lines-requires-clause-own c =
    subst AreLinesNamed (sym c.inserts.ensures) (lines_named c.args.netlist.now c.signals-signals.ensures.netlist)

pub returns-clause-ok : goal.returns-clause-ok
returns-clause-ok c =
    let whole = c.args.whole.now in
    let l = c.args.lineage in
    let n = c.args.netlist.now in
    let given = sg_now c.args.given.now in
    let view = made_view given.states c.args.i _ _ _ l c.in_ok-view.view c.deref.ensures.value
    c.trace-before.ensures.same c.in_ok-view.ensures in
    IfOk-weaker c.with_lines.result
    (λ (m : History). along (with_line whole.sg.states c.in_ok-view.view) l c.inserts.result.now (Ok m))
    (λ (m : History). with_part whole.sg.states whole.tuples.items l (c.args.i, (given, n)) (Ok m))
    (λ m all. subst₂ (λ (v : PartView) (is : List Insertion). along (with_line whole.sg.states v) l is (Ok m)) view
    c.inserts.ensures all) c.with_lines.ensures.ok

pub returns-clause-err : goal.returns-clause-err
returns-clause-err c =
    let whole = c.args.whole.now in
    let l = c.args.lineage in
    let n = c.args.netlist.now in
    let given = sg_now c.args.given.now in
    let view = made_view given.states c.args.i _ _ _ l c.in_ok-view.view c.deref.ensures.value
    c.trace-before.ensures.same c.in_ok-view.ensures in
    err_map c.with_lines.result
    (MayStop (along (with_line whole.sg.states c.in_ok-view.view) l c.inserts.result.now))
    (MayStop (with_part whole.sg.states whole.tuples.items l (c.args.i, (given, n))))
    (λ e may. subst₂ (λ (v : PartView) (is : List Insertion). MayStop (along (with_line whole.sg.states v) l is) e)
    view c.inserts.ensures may) c.with_lines.ensures.err
