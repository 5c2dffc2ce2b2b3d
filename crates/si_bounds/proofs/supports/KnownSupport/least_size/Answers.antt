use Rattle.std.proofs.Common.{◌∙◌, ℕ, subst, sym}
use Rattle.std.proofs.lemmas.Bool.{true≢false}
use Rattle.si_bounds.specs.Loops.Supports.{BoundsSupport}
use Rattle.si_bounds.proofs.SupportsBound.{bound_one_more, bound_same, bound_two_more}
use Rattle.si_bounds.proofs.supports.KnownSupport.least_size.Goals as goal

pub returns-then-are_all_mixed-clause-bound : goal.returns-then-are_all_mixed-clause-bound
returns-then-are_all_mixed-clause-bound c = λ d z knows.
    bound_same d z c.args.self.now knows c.args.high.now c.args.low.now
    (c.are_all_mixed.ensures.0 c.if-are_all_mixed.true)

pub returns-then-have_mixed-clause-bound : goal.returns-then-have_mixed-clause-bound
returns-then-have_mixed-clause-bound c = λ d z knows.
    subst (λ (least : ℕ). BoundsSupport d z c.args.high.now c.args.low.now least) (sym c.min.ensures)
    (bound_two_more d z c.args.self.now knows c.args.high.now c.args.low.now
    (λ all. true≢false (sym (c.are_all_mixed.ensures.1 all) ∙ c.if-are_all_mixed.false))
    (c.have_mixed.ensures.0 c.if-have_mixed.true))

pub returns-else-have_mixed-clause-bound : goal.returns-else-have_mixed-clause-bound
returns-else-have_mixed-clause-bound c = λ d z knows.
    bound_one_more d z c.args.self.now knows c.args.high.now c.args.low.now
    (λ all. true≢false (sym (c.are_all_mixed.ensures.1 all) ∙ c.if-are_all_mixed.false))
