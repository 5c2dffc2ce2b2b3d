use Rattle.std.proofs.Common.{◌∙◌, ap, sym, subst}
use Rattle.si_base.specs.WellFormed.{IsSum}
use Rattle.si_cube.specs.Covers.{Demand, IsPrimeCover}
use Rattle.si_cube.specs.Needed.{needed}
use Rattle.si_cube.specs.Rule.{is_needless_cube}
use Rattle.si_cube.proofs.RuleLemmas.{chosen_is_prime_cover}
use Rattle.si_cube.proofs.SumLemmas.{chosen_is_sum}
use Rattle.si_cube.proofs.codes.sum_of_codes.Goals as goal

pub returns-clause-chosen : goal.returns-clause-chosen
returns-clause-chosen c =
    c.new.ensures ∙ c.in_ok-kept.ensures
    ∙ ap (needed (is_needless_cube c.args.required.now)) (c.as_slice.ensures.value ∙ c.in_ok-cubes.ensures)

pub returns-clause-prime_cover : goal.returns-clause-prime_cover
returns-clause-prime_cover c =
    let d : Demand = record { required = c.args.required.now; forbidden = c.args.forbidden.now } in
    subst (IsPrimeCover d) (sym (returns-clause-chosen c))
    (chosen_is_prime_cover c.args.signals d c.requires.required_fit c.requires.forbidden_fit c.requires.meetable)

pub returns-clause-well_formed : goal.returns-clause-well_formed
returns-clause-well_formed c =
    let d : Demand = record { required = c.args.required.now; forbidden = c.args.forbidden.now } in
    subst (IsSum c.args.signals) (sym (returns-clause-chosen c)) (chosen_is_sum c.args.signals d)
