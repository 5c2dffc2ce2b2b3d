use Rattle.std.proofs.Common.{eqb-true, eq-eqb}
use Rattle.si_checks.proofs.ByCodesLemmas.{free_is}
use Rattle.si_checks.proofs.by_codes.leaves_others.Goals as goal

pub returns : goal.returns
returns c =
    let sets = rw (c.after.view_is, c.inputs.view_is) at c.set-free.ensures in
    let is = free_is c.args.coded.now c.requires.coded c.args.arc.now c.may_switch-before.result
    c.may_switch-after.result c.args.inputs c.set-free.result sets c.may_switch-before.ensures
    c.may_switch-after.ensures c.requires.inputs in
    rw (c.before-2.view_is, c.free.view_is)
    (λ same. is.0 (eqb-true _ _ same), λ leaves. eq-eqb _ _ (is.1 leaves))
