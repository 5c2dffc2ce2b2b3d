use Rattle.std.proofs.Common.{refl}
use Rattle.si_checks.proofs.ForkOrder.{out_item, one_more, none_at_all, later_event}
use Rattle.si_base.specs.Proper.{Forks}
use Rattle.si_checks.specs.Loops.Searches.{ForksBy}
use Rattle.si_checks.proofs.ForkLemmas.{by_step, fork_from, ends_from}
use Rattle.si_checks.proofs.SearchLemmas.{first_by}
use Rattle.si_checks.proofs.forks.first_fork_by.Goals as goal

pub returns-in-Some : goal.returns-in-Some
returns-in-Some c =
    let g = c.args.graph.now in
    let x = c.args.x in
    let y = c.y-item.result in
    let out = c.arcs_out-arcs.ensures in
    let step = out_item g x.from c.arcs_out-arcs.result.now out c.loop-y.y-index y c.loop-y-test.true c.y-item.is in
    first_by (Forks g) (λ b. b.s) (λ b. b.a) (λ b. b.c) g x.from c.arcs_out-arcs.result.now out x.event
    (by_step g x.from x.event) _ c.loop-y.y-index y
    (record {
      holds = fork_from g x.from x.event y.event x.to y.to _ _ c.requires.arc step
          (later_event y.event x.event c.if-le.ensures) c.in-Some.ensures;
      at = refl;
      by = refl;
    })
    c.loop-y-test.true c.y-item.is refl c.loop-y.invariant

pub loop-y-preserved : goal.loop-y-preserved
loop-y-preserved c =
    let g = c.args.graph.now in
    let x = c.args.x in
    let y = c.y-item.result in
    let out = c.arcs_out-arcs.ensures in
    let step = out_item g x.from c.arcs_out-arcs.result.now out c.loop-y.y-index y c.loop-y-test.true c.y-item.is in
    one_more g x.from c.arcs_out-arcs.result.now out (ForksBy g x.from x.event) (λ b. b.c)
    (by_step g x.from x.event) c.loop-y.y-index y c.loop-y-test.true c.y-item.is c.loop-y.invariant
    (λ b is same. c.in_default.ensures (b.w, b.w2)
    (ends_from g x.from x.event y.event x.to y.to b c.requires.deterministic c.requires.arc step is same))

pub returns : goal.returns
returns c =
    let g = c.args.graph.now in
    let x = c.args.x in
    none_at_all g x.from c.arcs_out-arcs.result.now c.arcs_out-arcs.ensures (ForksBy g x.from x.event) (λ b. b.c)
    (by_step g x.from x.event) c.loop-y.y-index c.loop-y-test.false c.loop-y.invariant
