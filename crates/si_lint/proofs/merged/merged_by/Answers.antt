use Rattle.std.proofs.Common.{◌∙◌, [], ap, arith}
use Rattle.si_base.specs.Graph.{StateGraph}
use Rattle.si_conflicts.specs.Conflicts.{pairs_of}
use Rattle.si_lint.specs.Findings.{IsMerged, merged_place}
use Rattle.si_told.proofs.Alls.{below_none, below_more, below_all}
use Rattle.si_lint.proofs.MergedLemmas.{later_order, merged_here, merged_pass, merged_within}
use Rattle.si_lint.proofs.SameCodeLemmas.{pushed_pair}
use Rattle.si_lint.proofs.merged.merged_by.Goals as goal
use Rattle.si_lint.proofs.merged.merged_by.Goals.{then-ne+in_ok-push, else-ne}

pub kept_for-p-requires-clause-state : goal.kept_for-p-requires-clause-state
kept_for-p-requires-clause-state c =
    let states = c.states-states.ensures ∙ ap (λ (g : StateGraph). g.states) c.graph-graph.ensures.same in
    omega (arith, c.loop-k-test.true, states)

pub loop-k-init : goal.loop-k-init
loop-k-init c = rw c.new-found.ensures.items
    (below_none merged_place (IsMerged c.args.coded.now) (λ pair. pair.1) (later_order c.args.coded.now) [])

pub loop-k-preserved : goal.loop-k-preserved
loop-k-preserved c =
    let d = c.args.coded.now in
    let k = c.loop-k.k in
    let p = c.kept_for-p.result in
    let old = c.loop-k.found.items in
    let more = below_more merged_place (IsMerged d) (λ pair. pair.1) (later_order d) k [] (pairs_of old) in
    elim c.if-ne.branch [
      | then-ne+in_ok-push w ↦ more _ c.loop-k.invariant (merged_here d p k c.kept_for-p.ensures (pairs_of old) _
          c.ne.result c.ne.ensures w.if-ne.true
          (pushed_pair old _ p k (ap (λ v. v.items) w.found-is ∙ w.in_ok-push.ensures.items)))
      | else-ne w ↦ rw w.found-is (more (pairs_of old) c.loop-k.invariant
          (merged_pass d p k c.kept_for-p.ensures (pairs_of old) c.ne.result c.ne.ensures w.if-ne.false))
    ]

pub returns : goal.returns
returns c =
    let d = c.args.coded.now in
    let states = c.states-states.ensures ∙ ap (λ (g : StateGraph). g.states) c.graph-graph.ensures.same in
    below_all merged_place (IsMerged d) (λ pair. pair.1) (later_order d) c.loop-k.k (pairs_of c.loop-k.found.items)
    (merged_within d c.loop-k.k (omega (arith, c.loop-k-test.false, states))) c.loop-k.invariant
