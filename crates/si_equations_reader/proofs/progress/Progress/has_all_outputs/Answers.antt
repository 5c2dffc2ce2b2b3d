use Rattle.std.proofs.Common.{List, ◌≡◌, ◌≤◌, length, true, false, map, ap, sym, ◌∙◌, arith}
use Rattle.si_words.specs.Names.{stands_in}
use Rattle.si_equations.specs.Equations.{Equation, driven}
use Rattle.si_equations_reader.specs.Held.{progress_now, equation_now}
use Rattle.si_equations_reader.specs.declared.progress.Equation.{Equation as EquationHeld}
use Rattle.si_equations_reader.proofs.ProgressLemmas.{all_next, all_stops, all_done}
use Rattle.si_equations_reader.proofs.progress.Progress.has_all_outputs.Goals as goal

pub returns-then-not-is_driven : goal.returns-then-not-is_driven
returns-then-not-is_driven c =
    let here : stands_in (driven (progress_now c.args.self.now)) c.get.result.now ≡ false =
    ap (λ (qs : List EquationHeld). stands_in (map (λ (q : Equation). q.name) (map equation_now qs)) c.get.result.now)
    (sym c.deref.ensures.value) ∙ sym c.is_driven.ensures ∙ c.if-not-is_driven.true in
    all_stops (stands_in (driven (progress_now c.args.self.now))) c.args.self.now.outputs c.loop-k.k c.get.result.now
    c.get.ensures here c.loop-k.invariant

pub loop-k-preserved : goal.loop-k-preserved
loop-k-preserved c =
    let here : stands_in (driven (progress_now c.args.self.now)) c.get.result.now ≡ true =
    ap (λ (qs : List EquationHeld). stands_in (map (λ (q : Equation). q.name) (map equation_now qs)) c.get.result.now)
    (sym c.deref.ensures.value) ∙ sym c.is_driven.ensures ∙ c.if-not-is_driven.false in
    all_next (stands_in (driven (progress_now c.args.self.now))) c.args.self.now.outputs c.loop-k.k c.get.result.now
    c.get.ensures here c.loop-k.invariant

pub returns : goal.returns
returns c =
    let past : length c.args.self.now.outputs ≤ c.loop-k.k =
    omega (arith, c.len-count.ensures.len, c.loop-k-test.false) in
    all_done (stands_in (driven (progress_now c.args.self.now))) c.args.self.now.outputs c.loop-k.k past
    c.loop-k.invariant
