use Rattle.std.proofs.Common.{◌∙◌, [], ap, arith}
use Rattle.si_base.specs.Graph.{StateGraph}
use Rattle.si_base.specs.Proper.{pair_place}
use Rattle.si_conflicts.specs.Conflicts.{pairs_of}
use Rattle.si_told.proofs.Alls.{below_none, below_more, below_all}
use Rattle.si_lint.proofs.UnresolvableLemmas.{twins_by_first, twins_below}
use Rattle.si_walks.specs.Twins.{IsTwinConflict}
use Rattle.si_lint.proofs.unresolvable.twin_conflicts.Goals as goal

pub loop-k-init : goal.loop-k-init
loop-k-init c = rw c.new-found.ensures.items
    (below_none pair_place (IsTwinConflict c.args.coded.now) (λ x. x.0) (twins_by_first c.args.coded.now) [])

pub add_twins_of-requires-clause-state : goal.add_twins_of-requires-clause-state
add_twins_of-requires-clause-state c =
    let states = c.states-k-end.ensures ∙ ap (λ (g : StateGraph). g.states) c.graph-graph.ensures.same in
    omega (arith, c.loop-k-test.true, states)

pub loop-k-preserved : goal.loop-k-preserved
loop-k-preserved c =
    let d = c.args.coded.now in
    below_more pair_place (IsTwinConflict d) (λ x. x.0) (twins_by_first d) c.loop-k.k []
    (pairs_of c.loop-k.found.items) _ c.loop-k.invariant c.in_ok-add_twins_of.ensures

pub returns : goal.returns
returns c =
    let d = c.args.coded.now in
    let states = c.states-k-end.ensures ∙ ap (λ (g : StateGraph). g.states) c.graph-graph.ensures.same in
    below_all pair_place (IsTwinConflict d) (λ x. x.0) (twins_by_first d) c.loop-k.k
    (pairs_of c.loop-k.found.items)
    (λ x is. (twins_below d c.loop-k.k (omega (arith, c.loop-k-test.false, states)) x is).0) c.loop-k.invariant
