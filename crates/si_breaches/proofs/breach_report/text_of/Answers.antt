use Rattle.std.proofs.Common.{arith}
use Rattle.si_breaches.specs.Loops.Breaches.{breaches_of}
use Rattle.si_breaches.proofs.BreachLines.{splits_within, forks_within, losses_within, clashes_within}
use Rattle.si_breaches.proofs.BreachLines.{breach_text_by_calls}
use Rattle.si_breaches.proofs.BreachTexts.{some_first_ways}
use Rattle.si_breaches.proofs.breach_report.text_of.Goals as goal

pub add_splits-requires-clause-within : goal.add_splits-requires-clause-within
add_splits-requires-clause-within c =
    let some = some_first_ways c.args.graph.now c.requires.connected in
    rw c.deref.ensures.value (splits_within c.args.graph.now c.arcs-arcs.ensures.graph _
    (c.requires.found some.0 some.1).splits)

pub add_clashes-requires-clause-within : goal.add_clashes-requires-clause-within
add_clashes-requires-clause-within c =
    let some = some_first_ways c.args.graph.now c.requires.connected in
    rw c.deref-2.ensures.value (clashes_within c.args.graph.now c.arcs-arcs.ensures.graph some.0 _
    (c.requires.found some.0 some.1).clashes)

pub add_forks-requires-clause-within : goal.add_forks-requires-clause-within
add_forks-requires-clause-within c =
    let some = some_first_ways c.args.graph.now c.requires.connected in
    rw c.deref-3.ensures.value (forks_within c.args.graph.now c.arcs-arcs.ensures.graph _
    (c.requires.found some.0 some.1).forks)

pub add_losses-requires-clause-within : goal.add_losses-requires-clause-within
add_losses-requires-clause-within c =
    let some = some_first_ways c.args.graph.now c.requires.connected in
    rw c.deref-4.ensures.value (losses_within c.args.graph.now c.arcs-arcs.ensures.graph _
    (c.requires.found some.0 some.1).losses)

pub returns : goal.returns
returns c = breach_text_by_calls c.args.graph.now c.args.states.now c.args.dropped.now (breaches_of c.args.found.now)
    _ _ _ _ _ _ _ _ c.requires.connected c.requires.found
    (omega (arith, c.from.ensures, c.count.ensures, c.len.ensures.len))
    c.in_ok-text.ensures c.in_ok-add_told.ensures c.in_ok-add_dropped.ensures
    (rw c.deref.ensures.value at c.in_ok-add_splits.ensures)
    (rw c.deref-2.ensures.value at c.in_ok-add_clashes.ensures)
    (rw c.deref-3.ensures.value at c.in_ok-add_forks.ensures)
    (rw c.deref-4.ensures.value at c.in_ok-add_losses.ensures)
