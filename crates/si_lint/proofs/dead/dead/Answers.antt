use Rattle.std.proofs.Common.{◌∙◌, [], ap, arith}
use Rattle.si_carried.specs.Lint.{IsDeadState}
use Rattle.si_told.specs.All.{number_place}
use Rattle.si_told.proofs.Alls.{below_none, below_more, below_all}
use Rattle.si_lint.proofs.DeadLemmas.{dead_order, dead_here, dead_pass}
use Rattle.si_lint.proofs.dead.dead.Goals as goal
use Rattle.si_lint.proofs.dead.dead.Goals.{then-is_empty+in_ok-push, else-is_empty}

pub loop-k-init : goal.loop-k-init
loop-k-init c = rw c.new-found.ensures.items
    (below_none number_place (IsDeadState c.args.graph.now) (λ s. s) (dead_order c.args.graph.now) [])

pub loop-k-preserved : goal.loop-k-preserved
loop-k-preserved c =
    let g = c.args.graph.now in
    let s = c.loop-k.k in
    let arcs = c.arcs_out-arcs.result.now in
    let old = c.loop-k.found.items in
    let more = below_more number_place (IsDeadState g) (λ t. t) (dead_order g) s [] old in
    elim c.if-is_empty.branch [
      | then-is_empty+in_ok-push w ↦ more _ c.loop-k.invariant (dead_here g s arcs c.arcs_out-arcs.ensures
          c.is_empty.result c.is_empty.ensures old _ (omega (arith, c.loop-k-test.true, c.states-k-end.ensures))
          w.if-is_empty.true (ap (λ v. v.items) w.found-is ∙ w.in_ok-push.ensures.items))
      | else-is_empty w ↦ rw w.found-is (more old c.loop-k.invariant (dead_pass g s arcs c.arcs_out-arcs.ensures
          c.is_empty.result c.is_empty.ensures old w.if-is_empty.false))
    ]

pub returns : goal.returns
returns c =
    let g = c.args.graph.now in
    below_all number_place (IsDeadState g) (λ s. s) (dead_order g) c.loop-k.k c.loop-k.found.items
    (λ s is. (let within = is.within in omega (arith, c.loop-k-test.false, c.states-k-end.ensures))) c.loop-k.invariant
