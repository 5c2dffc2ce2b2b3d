use Rattle.std.proofs.Common.{◌≡◌, ℕ, ◌<◌, ◌^◌, All, IfOk, sym, subst, ◌∙◌}
use Rattle.std.specs.List.Sorted.{IsNonDecreasing}
use Rattle.si_cube.specs.Covers.{Demand, IsMeetable}
use Rattle.si_cube.specs.Rule.{chosen}
use Rattle.si_genlib.specs.Gate.{sum_of}
use Rattle.si_genlib.specs.Loops.Tables.{table_value}
use Rattle.si_genlib.proofs.DemandLemmas.{required_fit, forbidden_fit, forbidden_rises, can_be_met, same_demand}
use Rattle.si_genlib.proofs.demand.sum_of.Goals as goal

pub sum_of_codes-requires-clause-in_order : goal.sum_of_codes-requires-clause-in_order
sum_of_codes-requires-clause-in_order c = subst IsNonDecreasing
    (sym (c.deref-2.ensures.value ∙ c.in_ok-demand.ensures.forbidden))
    (forbidden_rises c.args.bits (table_value c.args.count c.args.table))

pub sum_of_codes-requires-clause-required_fit : goal.sum_of_codes-requires-clause-required_fit
sum_of_codes-requires-clause-required_fit c = subst (All (λ (k : ℕ). k < 2 ^ c.args.bits))
    (sym (c.deref.ensures.value ∙ c.in_ok-demand.ensures.required))
    (required_fit c.args.bits (table_value c.args.count c.args.table))

pub sum_of_codes-requires-clause-meetable : goal.sum_of_codes-requires-clause-meetable
sum_of_codes-requires-clause-meetable c = subst IsMeetable
    (sym (same_demand c.args.bits (table_value c.args.count c.args.table)
    c.deref.result.now c.deref-2.result.now (c.deref.ensures.value ∙ c.in_ok-demand.ensures.required)
    (c.deref-2.ensures.value ∙ c.in_ok-demand.ensures.forbidden)))
    (can_be_met c.args.bits (table_value c.args.count c.args.table))

pub sum_of_codes-requires-clause-forbidden_fit : goal.sum_of_codes-requires-clause-forbidden_fit
sum_of_codes-requires-clause-forbidden_fit c = subst (All (λ (k : ℕ). k < 2 ^ c.args.bits))
    (sym (c.deref-2.ensures.value ∙ c.in_ok-demand.ensures.forbidden))
    (forbidden_fit c.args.bits (table_value c.args.count c.args.table))

pub returns : goal.returns
unfolding sum_of
returns c = subst (λ (d : Demand). IfOk c.sum_of_codes.result (λ sum. sum ≡ chosen c.args.bits d))
    (same_demand c.args.bits (table_value c.args.count c.args.table)
    c.deref.result.now c.deref-2.result.now (c.deref.ensures.value ∙ c.in_ok-demand.ensures.required)
    (c.deref-2.ensures.value ∙ c.in_ok-demand.ensures.forbidden)) c.sum_of_codes.ensures.chosen
