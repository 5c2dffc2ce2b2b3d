use Rattle.std.proofs.Common.{◌≡◌, ◌<◌, ◌≤◌, List, length, get_or, ap, sym, ◌∙◌, arith}
use Rattle.si_equations.specs.Equations.{signals, undeclared}
use Rattle.si_equations_reader.specs.Held.{progress_now, equation_now}
use Rattle.si_equations_reader.specs.declared.progress.Equation.{Equation as EquationHeld}
use Rattle.si_equations_reader.proofs.ProgressLemmas.{first_next, first_stops, first_done, is_known, is_unknown}
use Rattle.si_equations_reader.proofs.reader.undeclared_line.Goals as goal

pub loop-equation-preserved : goal.loop-equation-preserved
loop-equation-preserved c =
    let items : c.deref-equation-items.result.now ≡ c.args.read.now.equations.items =
    c.deref-equation-items.ensures.value in
    let here : c.equation-item.result
    ≡ get_or c.args.read.now.equations.items c.loop-equation.equation-index c.equation-item.result =
    c.equation-item.is ∙ ap (λ (l : List EquationHeld). get_or l c.loop-equation.equation-index c.equation-item.result)
    items in
    let within : c.loop-equation.equation-index < length c.args.read.now.equations.items =
    omega (arith, ap length items, c.loop-equation-test.true) in
    first_next (undeclared (signals (progress_now c.args.read.now))) c.args.read.now.equations.items
    c.loop-equation.equation-index c.equation-item.result within c.loop-equation.invariant
    (ap (λ (q : EquationHeld). undeclared (signals (progress_now c.args.read.now)) (equation_now q)) (sym here)
    ∙ is_known c.args.read.now.signals (signals (progress_now c.args.read.now)) c.equation-item.result
    c.deref.result.now c.in_ok-evaluate.field-0 c.requires c.deref.ensures.value c.in_ok-evaluate.ensures
    c.if-not-branch.false)

pub returns-then-not-branch : goal.returns-then-not-branch
returns-then-not-branch c =
    let items : c.deref-equation-items.result.now ≡ c.args.read.now.equations.items =
    c.deref-equation-items.ensures.value in
    let here : c.equation-item.result
    ≡ get_or c.args.read.now.equations.items c.loop-equation.equation-index c.equation-item.result =
    c.equation-item.is ∙ ap (λ (l : List EquationHeld). get_or l c.loop-equation.equation-index c.equation-item.result)
    items in
    let within : c.loop-equation.equation-index < length c.args.read.now.equations.items =
    omega (arith, ap length items, c.loop-equation-test.true) in
    first_stops (undeclared (signals (progress_now c.args.read.now))) c.args.read.now.equations.items
    c.loop-equation.equation-index c.equation-item.result within c.loop-equation.invariant _
    (ap (λ (q : EquationHeld). undeclared (signals (progress_now c.args.read.now)) (equation_now q)) (sym here)
    ∙ is_unknown c.args.read.now.signals (signals (progress_now c.args.read.now)) c.equation-item.result
    c.deref.result.now c.in_ok-evaluate.field-0 c.requires c.deref.ensures.value c.in_ok-evaluate.ensures
    c.if-not-branch.true)

pub returns : goal.returns
returns c =
    let past : length c.args.read.now.equations.items ≤ c.loop-equation.equation-index =
    omega (arith, ap length c.deref-equation-items.ensures.value, c.loop-equation-test.false) in
    first_done (undeclared (signals (progress_now c.args.read.now))) c.args.read.now.equations.items
    c.loop-equation.equation-index past c.loop-equation.invariant
