use Rattle.std.proofs.Common.{List, ℕ, Contains, subst, sym}
use Rattle.si_match.proofs.CodeLemmas.{told_by_lists}
use Rattle.si_match.proofs.support.determine_many.Goals as goal

pub returns : goal.returns
returns c =
    told_by_lists c.args.coded.now c.args.z c.args.signals c.in_ok-on.on.items c.in_ok-codes_with.field-0.items
    c.in_order-off.result.items c.in_ok-on.ensures c.in_ok-codes_with.ensures c.in_order-off.ensures.same
    c.meet.result
    (λ met. (
    let (k, in_on, in_off) = c.meet.ensures.meet met in (
      k,
      subst (λ (xs : List ℕ). Contains xs k) c.deref.ensures.value in_on,
      subst (λ (xs : List ℕ). Contains xs k) c.deref-2.ensures.value in_off,
    )))
    (λ not_met k in_on in_off. c.meet.ensures.apart not_met k
    (subst (λ (xs : List ℕ). Contains xs k) (sym c.deref.ensures.value) in_on)
    (subst (λ (xs : List ℕ). Contains xs k) (sym c.deref-2.ensures.value) in_off))
