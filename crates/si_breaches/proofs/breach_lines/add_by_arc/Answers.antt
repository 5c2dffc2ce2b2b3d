use Rattle.std.proofs.Common.{◌∙◌}
use Rattle.si_breaches.proofs.BreachLines.{by_arc_added, more_signals, way_signals}
use Rattle.si_breaches.proofs.breach_lines.add_by_arc.Goals as goal

pub add_value-requires-clause-walk : goal.add_value-requires-clause-walk
add_value-requires-clause-walk c =
    let g = c.args.graph.now in
    let x = c.args.x.now in
    rw (c.as_slice.ensures.value, c.in_ok-push.ensures.items, c.signals.ensures)
    (more_signals g c.arcs-arcs.ensures.graph c.in_ok-walk.walk.items x.event
    (way_signals g x.from c.in_ok-walk.walk.items c.arcs-arcs.ensures.graph c.in_ok-walk.ensures) c.requires.arc.1)

pub returns : goal.returns
returns c = by_arc_added c.args.graph.now _ c.args.states.now c.args.a c.args.x.now c.in_ok-walk.walk.items _
    c.args.text.now _ c.signals.ensures c.requires.arc.0 c.in_ok-walk.ensures
    (c.as_slice.ensures.value ∙ c.in_ok-push.ensures.items) c.in_ok-add_value.ensures
