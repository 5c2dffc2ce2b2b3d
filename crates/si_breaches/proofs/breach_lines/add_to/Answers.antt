use Rattle.si_breaches.proofs.BreachLines.{way_added, way_signals}
use Rattle.si_breaches.proofs.breach_lines.add_to.Goals as goal

pub add_value-requires-clause-walk : goal.add_value-requires-clause-walk
add_value-requires-clause-walk c =
    let g = c.args.graph.now in
    rw (c.as_slice.ensures.value, c.signals.ensures)
    (way_signals g c.args.s c.in_ok-walk.walk.items c.arcs-arcs.ensures.graph c.in_ok-walk.ensures)

pub returns : goal.returns
returns c = way_added c.args.graph.now _ c.args.states.now c.args.a c.args.s c.in_ok-walk.walk.items _
    c.args.text.now _ c.signals.ensures c.requires.state c.in_ok-walk.ensures c.as_slice.ensures.value
    c.in_ok-add_value.ensures
