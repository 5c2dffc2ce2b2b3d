use Rattle.std.proofs.Common.{◌∙◌, inl, refl, sym, subst, arith}
use Rattle.std.proofs.lemmas.Bool.{true≢false}
use Rattle.si_bounds.specs.Loops.Needs.{SomeIsMet}
use Rattle.si_bounds.proofs.unfit.Unfit.least.Goals as goal

pub overflow_add-result : goal.overflow_add-result
overflow_add-result c = omega (arith, c.least_size.ensures.small)

pub returns-in-Some-clause-tells : goal.returns-in-Some-clause-tells
returns-in-Some-clause-tells c = λ classes stable. (
    let met = c.may_fit.ensures classes stable in
    let value = c.deref.ensures.value in
    inl record {
      none = (
        c.in-Some.needs,
        c.in-Some.is,
        λ some. true≢false (sym
            (met.1 (subst (λ needs. SomeIsMet needs classes) (sym value) some)) ∙ c.if-not-may_fit.true),
      );
      size = c.least_size.result;
      is_size = c.least_size.ensures.least;
      bounds = c.least_size.ensures.bound;
      told = refl;
    })

pub returns-in-Some-clause-small : goal.returns-in-Some-clause-small
returns-in-Some-clause-small c = omega (arith, c.least_size.ensures.small)
