use Rattle.std.proofs.Common.{◌≡◌, ◌∙◌, [], sym, rules}
use Rattle.std.proofs.lemmas.Bool.{true≢false}
use Rattle.si_breaches.specs.Loops.Steps.{Enables, IsFirstBy, place_of_event}
use Rattle.si_breaches.proofs.StepLemmas.{event_order_at, event_here, event_pass, event_each}
use Rattle.si_told.proofs.Alls.{first_none, first_more, first_all, all_added}
use Rattle.si_breaches.proofs.steps.events_at.Goals as goal
use Rattle.si_breaches.proofs.steps.events_at.Goals.{then-is_first+in_ok-push, else-is_first}

pub loop-x-init : goal.loop-x-init
loop-x-init c =
    let g = c.args.graph.now in
    let s = c.args.s in
    let arcs = c.arcs_out-arcs.result.now in
    rw c.new-events.ensures.items (first_none place_of_event (Enables g s) (IsFirstBy g s) arcs
    (event_order_at g s arcs c.arcs_out-arcs.ensures) [])

pub loop-x-preserved : goal.loop-x-preserved
loop-x-preserved c =
    let g = c.args.graph.now in
    let s = c.args.s in
    let arcs = c.arcs_out-arcs.result.now in
    let out = c.arcs_out-arcs.ensures in
    let x = c.x-item.result in
    let old = c.loop-x.events.items in
    let more = first_more place_of_event (Enables g s) (IsFirstBy g s) arcs (event_order_at g s arcs out)
    c.loop-x.x-index x [] old in
    elim c.if-is_first.branch [
      | then-is_first+in_ok-push w ↦ (
          let new : c.if-is_first.events.items ≡ w.push.new.self.items = search rules in
          more c.if-is_first.events.items c.loop-x-test.true c.x-item.is c.loop-x.invariant
          (event_here g s arcs out x old c.if-is_first.events.items (c.is_first.ensures.0 w.if-is_first.true)
          (new ∙ w.in_ok-push.ensures.items)))
      | else-is_first w ↦ (
          let kept : c.if-is_first.events.items ≡ old = search rules in
          rw kept (more old c.loop-x-test.true c.x-item.is c.loop-x.invariant
          (event_pass g s arcs out x old (λ least. true≢false
          (sym (c.is_first.ensures.1 least) ∙ w.if-is_first.false)))))
    ]

pub returns : goal.returns
returns c =
    let g = c.args.graph.now in
    let s = c.args.s in
    let arcs = c.arcs_out-arcs.result.now in
    let out = c.arcs_out-arcs.ensures in
    all_added place_of_event (Enables g s) c.loop-x.events.items (first_all place_of_event (Enables g s)
    (IsFirstBy g s) arcs (event_order_at g s arcs out) c.loop-x.x-index [] c.loop-x.events.items
    c.loop-x-test.false (event_each g s arcs out) c.loop-x.invariant)
