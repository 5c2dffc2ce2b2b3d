use Rattle.std.proofs.Common.{◌≡◌, ◌∙◌, [], List, length, ap, arith, rules}
use Rattle.si_base.specs.declared.graph.Signal.{Signal}
use Rattle.si_breaches.specs.Breaches.{IsClashing, clashing_place}
use Rattle.si_told.proofs.Alls.{below_none, below_more, below_all}
use Rattle.si_breaches.proofs.ClashLemmas.{clash_order, clash_here, clash_pass}
use Rattle.si_breaches.proofs.clashes.clashes.Goals as goal
use Rattle.si_breaches.proofs.clashes.clashes.Goals.{in-Some+in_ok-push, in_default}

pub overflow_cast-count : goal.overflow_cast-count
overflow_cast-count c =
    omega (arith, ap (λ (l : List Signal). length l) c.signals.ensures, c.arcs-arcs.ensures.graph.few_signals)

pub clash_of-requires-clause-signal : goal.clash_of-requires-clause-signal
clash_of-requires-clause-signal c =
    omega (arith, c.loop-k-test.true, ap (λ (l : List Signal). length l) c.signals.ensures)

pub loop-k-init : goal.loop-k-init
loop-k-init c = λ walk ways. rw c.new-found.ensures.items (below_none clashing_place
    (IsClashing c.args.graph.now walk) (λ c. c.sig) (clash_order c.args.graph.now walk) [])

pub loop-k-preserved : goal.loop-k-preserved
loop-k-preserved c = λ walk ways.
    let g = c.args.graph.now in
    let k = c.loop-k.k in
    let old = c.loop-k.found.items in
    let size = ap (λ (l : List Signal). length l) c.signals.ensures in
    let more = below_more clashing_place (IsClashing g walk) (λ c. c.sig) (clash_order g walk) k [] old in
    elim c.match-clash_of.branch [
      | in-Some+in_ok-push w ↦ (
          let new : c.match-clash_of.found.items ≡ w.push.new.self.items = search rules in
          more c.match-clash_of.found.items (c.loop-k.invariant walk ways)
          (clash_here g walk k w.in-Some.clash old c.match-clash_of.found.items (omega (arith, c.loop-k-test.true, size))
          (w.in-Some.ensures walk ways) (new ∙ w.in_ok-push.ensures.items)))
      | in_default w ↦ (
          let kept : c.match-clash_of.found.items ≡ old = search rules in
          rw kept (more old (c.loop-k.invariant walk ways)
          (clash_pass g walk k old (w.in_default.ensures walk ways))))
    ]

pub returns : goal.returns
returns c = λ walk ways.
    let g = c.args.graph.now in
    let size = ap (λ (l : List Signal). length l) c.signals.ensures in
    below_all clashing_place (IsClashing g walk) (λ c. c.sig) (clash_order g walk) c.loop-k.k c.loop-k.found.items
    (λ d is. (let within = is.within in omega (arith, c.loop-k-test.false, size))) (c.loop-k.invariant walk ways)
