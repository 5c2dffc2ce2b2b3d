use Rattle.std.proofs.Common.{ℕ, ◌∙◌, sym, subst}
use Rattle.si_base.specs.Order.{IsFirst}
use Rattle.si_base.specs.Proper.{Forks, fork_place}
use Rattle.si_checks.specs.Loops.Searches.{ForksAt, ForksBy}
use Rattle.si_checks.proofs.ForkOrder.{out_arc, out_source, one_more, none_at_all}
use Rattle.si_checks.proofs.ForkLemmas.{at_step}
use Rattle.si_checks.proofs.SearchLemmas.{first_at}
use Rattle.si_checks.proofs.forks.first_fork_at.Goals as goal

pub first_fork_by-requires-clause-arc : goal.first_fork_by-requires-clause-arc
first_fork_by-requires-clause-arc c = out_arc c.args.graph.now c.args.s c.arcs_out-arcs.result.now
    c.arcs_out-arcs.ensures c.loop-x.x-index c.x-item.result c.loop-x-test.true c.x-item.is

pub returns-in-Some : goal.returns-in-Some
returns-in-Some c =
    let g = c.args.graph.now in
    let from = out_source g c.args.s c.arcs_out-arcs.result.now c.arcs_out-arcs.ensures c.loop-x.x-index c.x-item.result
    c.loop-x-test.true c.x-item.is in
    let First : ℕ → Type 0 = λ n. IsFirst fork_place (ForksBy g n c.x-item.result.event) c.in-Some.fork in
    first_at (Forks g) (λ b. b.s) (λ b. b.a) (λ b. b.c) g c.args.s c.arcs_out-arcs.result.now
    c.arcs_out-arcs.ensures (at_step g c.args.s)
    c.in-Some.fork c.loop-x.x-index c.x-item.result c.loop-x-test.true c.x-item.is
    (subst First from c.in-Some.ensures) c.loop-x.invariant

pub loop-x-preserved : goal.loop-x-preserved
loop-x-preserved c =
    let g = c.args.graph.now in
    let from = out_source g c.args.s c.arcs_out-arcs.result.now c.arcs_out-arcs.ensures c.loop-x.x-index c.x-item.result
    c.loop-x-test.true c.x-item.is in
    one_more g c.args.s c.arcs_out-arcs.result.now c.arcs_out-arcs.ensures (ForksAt g c.args.s) (λ b. b.a)
    (at_step g c.args.s) c.loop-x.x-index c.x-item.result c.loop-x-test.true c.x-item.is c.loop-x.invariant
    (λ b is same. c.in_default.ensures b (record { holds = is.holds; at = is.at ∙ sym from; by = same }))

pub returns : goal.returns
returns c =
    let g = c.args.graph.now in
    none_at_all g c.args.s c.arcs_out-arcs.result.now c.arcs_out-arcs.ensures (ForksAt g c.args.s) (λ b. b.a)
    (at_step g c.args.s) c.loop-x.x-index c.loop-x-test.false c.loop-x.invariant
