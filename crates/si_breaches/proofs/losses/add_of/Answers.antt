use Rattle.std.proofs.Common.{◌≡◌, ◌∙◌, sym, rules}
use Rattle.std.proofs.lemmas.Bool.{true≢false}
use Rattle.si_base.specs.Proper.{loss_place}
use Rattle.si_breaches.specs.Loops.Breaches.{LosesOf, IsOfCause}
use Rattle.si_breaches.proofs.LossLemmas.{of_order, of_here, of_pass, of_each}
use Rattle.si_told.proofs.Alls.{first_none, first_more, first_all}
use Rattle.si_breaches.proofs.losses.add_of.Goals as goal
use Rattle.si_breaches.proofs.losses.add_of.Goals.{then-takes_away+in_ok-push, else-takes_away}

pub loop-by-init : goal.loop-by-init
loop-by-init c =
    let g = c.args.graph.now in
    let events = c.args.events.now in
    first_none loss_place (LosesOf g c.args.s c.args.lost.now) IsOfCause events
    (of_order g c.args.s events c.requires.events c.args.lost.now) c.args.found.now.items

pub loop-by-preserved : goal.loop-by-preserved
loop-by-preserved c =
    let g = c.args.graph.now in
    let s = c.args.s in
    let lost = c.args.lost.now in
    let events = c.args.events.now in
    let by = c.by-item.result in
    let old = c.loop-by.found.items in
    let more = first_more loss_place (LosesOf g s lost) IsOfCause events (of_order g s events c.requires.events lost)
    c.loop-by.by-index by c.args.found.now.items old in
    elim c.if-takes_away.branch [
      | then-takes_away+in_ok-push w ↦ (
          let new : c.if-takes_away.found.items ≡ w.push.new.self.items = search rules in
          more c.if-takes_away.found.items c.loop-by-test.true c.by-item.is c.loop-by.invariant
          (of_here g s lost by old c.if-takes_away.found.items c.requires.non_input c.requires.enabled
          (c.takes_away.ensures.0 w.if-takes_away.true) (new ∙ w.in_ok-push.ensures.items)))
      | else-takes_away w ↦ (
          let kept : c.if-takes_away.found.items ≡ old = search rules in
          rw kept (more old c.loop-by-test.true c.by-item.is c.loop-by.invariant
          (of_pass g s lost by old (λ takes. true≢false
          (sym (c.takes_away.ensures.1 takes) ∙ w.if-takes_away.false)))))
    ]

pub returns : goal.returns
returns c =
    let g = c.args.graph.now in
    let s = c.args.s in
    let lost = c.args.lost.now in
    let events = c.args.events.now in
    first_all loss_place (LosesOf g s lost) IsOfCause events (of_order g s events c.requires.events lost)
    c.loop-by.by-index c.args.found.now.items c.loop-by.found.items c.loop-by-test.false
    (of_each g s events c.requires.events lost) c.loop-by.invariant
