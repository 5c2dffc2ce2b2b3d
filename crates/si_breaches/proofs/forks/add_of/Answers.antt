use Rattle.std.proofs.Common.{◌≡◌, ◌∙◌, rules}
use Rattle.si_base.specs.Proper.{fork_place}
use Rattle.si_breaches.specs.Loops.Breaches.{ForksOf, IsOfSecondEvent}
use Rattle.si_breaches.proofs.ForkLemmas.{of_order, of_here, of_pass, of_each}
use Rattle.si_told.proofs.Alls.{first_none, first_more, first_all}
use Rattle.si_breaches.proofs.forks.add_of.Goals as goal
use Rattle.si_breaches.proofs.forks.add_of.Goals.{in-Some+in_ok-push, in_default}

pub loop-c-init : goal.loop-c-init
loop-c-init c =
    let g = c.args.graph.now in
    let events = c.args.events.now in
    first_none fork_place (ForksOf g c.args.s c.args.a.now) IsOfSecondEvent events
    (of_order g c.args.s events c.requires c.args.a.now) c.args.found.now.items

pub loop-c-preserved : goal.loop-c-preserved
loop-c-preserved c =
    let g = c.args.graph.now in
    let s = c.args.s in
    let a = c.args.a.now in
    let events = c.args.events.now in
    let e = c.c-item.result in
    let old = c.loop-c.found.items in
    let more = first_more fork_place (ForksOf g s a) IsOfSecondEvent events (of_order g s events c.requires a)
    c.loop-c.c-index e c.args.found.now.items old in
    elim c.match-fork_of.branch [
      | in-Some+in_ok-push w ↦ (
          let new : c.match-fork_of.found.items ≡ w.push.new.self.items = search rules in
          more c.match-fork_of.found.items c.loop-c-test.true c.c-item.is c.loop-c.invariant
          (of_here g s a e w.in-Some.fork old c.match-fork_of.found.items
          w.in-Some.ensures (new ∙ w.in_ok-push.ensures.items)))
      | in_default w ↦ (
          let kept : c.match-fork_of.found.items ≡ old = search rules in
          rw kept (more old c.loop-c-test.true c.c-item.is c.loop-c.invariant
          (of_pass g s a e old w.in_default.ensures)))
    ]

pub returns : goal.returns
returns c =
    let g = c.args.graph.now in
    let s = c.args.s in
    let a = c.args.a.now in
    let events = c.args.events.now in
    first_all fork_place (ForksOf g s a) IsOfSecondEvent events (of_order g s events c.requires a) c.loop-c.c-index
    c.args.found.now.items c.loop-c.found.items c.loop-c-test.false (of_each g s events c.requires a)
    c.loop-c.invariant
