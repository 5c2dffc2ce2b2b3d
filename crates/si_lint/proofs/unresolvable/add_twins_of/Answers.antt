use Rattle.std.proofs.Common.{◌∙◌, ap, sym, arith}
use Rattle.std.proofs.lemmas.Bool.{true≢false}
use Rattle.si_base.specs.Graph.{StateGraph}
use Rattle.si_base.specs.Proper.{pair_place}
use Rattle.si_conflicts.specs.Conflicts.{pairs_of}
use Rattle.si_lint.specs.Loops.Search.{IsTwinConflictOf}
use Rattle.si_told.proofs.Alls.{below_none, below_more, adds_same}
use Rattle.si_lint.proofs.UnresolvableLemmas.{pushed_pair, twins_by_second, twin_here, twin_pass, twins_below}
use Rattle.si_lint.proofs.unresolvable.add_twins_of.Goals as goal
use Rattle.si_lint.proofs.unresolvable.add_twins_of.Goals.{then-is_twin_conflict+in_ok-push, else-is_twin_conflict}

pub loop-k-init : goal.loop-k-init
loop-k-init c = below_none pair_place (IsTwinConflictOf c.args.coded.now c.args.p) (λ x. x.1)
    (twins_by_second c.args.coded.now c.args.p) (pairs_of c.args.found.now.items)

pub is_twin_conflict-requires-clause-q : goal.is_twin_conflict-requires-clause-q
is_twin_conflict-requires-clause-q c =
    let states = c.states-k-end.ensures ∙ ap (λ (g : StateGraph). g.states) c.graph-graph.ensures.same in
    omega (arith, c.loop-k-test.true, states)

pub loop-k-preserved : goal.loop-k-preserved
loop-k-preserved c =
    let d = c.args.coded.now in
    let p = c.args.p in
    let k = c.loop-k.k in
    let old = c.loop-k.found.items in
    let more = below_more pair_place (IsTwinConflictOf d p) (λ x. x.1) (twins_by_second d p) k
    (pairs_of c.args.found.now.items) (pairs_of old) in
    elim c.if-is_twin_conflict.branch [
      | then-is_twin_conflict+in_ok-push w ↦ more _ c.loop-k.invariant
          (twin_here d p k (pairs_of old) _ (c.is_twin_conflict.ensures.0 w.if-is_twin_conflict.true)
          (pushed_pair old _ (record { p = p; q = k }) (ap (λ v. v.items) w.found-is ∙ w.in_ok-push.ensures.items)))
      | else-is_twin_conflict w ↦ rw w.found-is (more (pairs_of old) c.loop-k.invariant
          (twin_pass d p k (pairs_of old)
          (λ told. true≢false (sym (c.is_twin_conflict.ensures.1 told) ∙ w.if-is_twin_conflict.false))))
    ]

pub returns : goal.returns
returns c =
    let d = c.args.coded.now in
    let p = c.args.p in
    let states = c.states-k-end.ensures ∙ ap (λ (g : StateGraph). g.states) c.graph-graph.ensures.same in
    adds_same pair_place _ (IsTwinConflictOf d p) _ _ (λ x is. is.0)
    (λ x is. (is, (twins_below d c.loop-k.k (omega (arith, c.loop-k-test.false, states)) x is.0).1)) c.loop-k.invariant
