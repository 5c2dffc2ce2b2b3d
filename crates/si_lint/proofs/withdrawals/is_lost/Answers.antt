use Rattle.std.proofs.Common.{◌↔◌, not, IsTrue, sym, subst}
use Rattle.si_lint.specs.Loops.Withdrawals.{IsLostOf}
use Rattle.si_lint.specs.declared.withdrawals.Kind.{Kind}
use Rattle.si_lint.proofs.WithdrawalLemmas.{input_told}
use Rattle.si_lint.proofs.withdrawals.is_lost.Goals as goal

pub returns-in-Choice : goal.returns-in-Choice
returns-in-Choice c = subst (λ (k : Kind). IsTrue (not c.is_driven.result) ↔ IsLostOf c.args.graph.now k c.args.e)
    (sym c.in-Choice.is) (input_told c.args.graph.now c.args.e c.is_driven.result c.requires c.is_driven.ensures)

pub returns-in-Disabling : goal.returns-in-Disabling
returns-in-Disabling c =
    let driven = c.is_driven-in-Disabling in
    subst (λ (k : Kind). IsTrue (not driven.result) ↔ IsLostOf c.args.graph.now k c.args.e)
    (sym c.in-Disabling.is) (input_told c.args.graph.now c.args.e driven.result c.requires driven.ensures)
