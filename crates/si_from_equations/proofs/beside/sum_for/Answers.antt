use Rattle.std.proofs.Common.{◌≡◌, Option, IfOk, arith, subst, sym, ◌∙◌}
use Rattle.si_base.specs.Netlist.{Sum}
use Rattle.si_genlib.specs.Expression.{Tree}
use Rattle.si_equations_reader.specs.Read.{equations_now}
use Rattle.si_from_equations.specs.Sums.{sum_of}
use Rattle.si_from_equations.proofs.PlaceLemmas.{expression_behind, expression_ended, expression_here}
use Rattle.si_from_equations.proofs.beside.sum_for.Goals as goal

pub returns-then-eq : goal.returns-then-eq
returns-then-eq c =
    let same = expression_here (equations_now c.args.equations.now).equations c.loop-k.k c.args.name.now c.name.result.now
    _ _ c.name.ensures c.steps.ensures (sym c.eq.ensures ∙ c.if-eq.true) c.loop-k.invariant in
    subst (λ (t : Tree). IfOk c.sum_of.result (λ (sum : Option Sum). sum ≡ sum_of c.args.names.now t)) same
    c.sum_of.ensures

pub loop-k-preserved : goal.loop-k-preserved
loop-k-preserved c = expression_behind (equations_now c.args.equations.now).equations c.loop-k.k c.args.name.now
    c.name.result.now _ c.name.ensures (sym c.eq.ensures ∙ c.if-eq.false) c.loop-k.invariant

pub returns : goal.returns
returns c =
    let same = expression_ended (equations_now c.args.equations.now).equations c.loop-k.k c.args.name.now _
    (omega (arith, c.len-k-end.ensures, c.loop-k-test.false)) c.loop-k.invariant in
    subst (λ (t : Tree). IfOk c.sum_of-2.result (λ (sum : Option Sum). sum ≡ sum_of c.args.names.now t)) same
    c.sum_of-2.ensures
