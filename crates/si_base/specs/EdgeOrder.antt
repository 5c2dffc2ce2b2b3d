-- (field) Event order and the order of arcs, as comparisons.
use Rattle.std.specs.declared.cmp.Ordering.{Ordering}
use Rattle.std.specs.Ordering.{nat_cmp, on, flip_args, then_cmp, bool_cmp}
use Rattle.si_base.specs.declared.ids.Event.{Event}
use Rattle.si_base.specs.declared.graph.Edge.{Edge}

-- signal order, with + before -
abbrev pub event_cmp : Event → Event → Ordering
event_cmp = then_cmp (on (λ e. e.sig) nat_cmp) (flip_args (on (λ e. e.up) bool_cmp))

-- source, event, target
abbrev pub edge_cmp : Edge → Edge → Ordering
edge_cmp = then_cmp (on (λ a. a.from) nat_cmp)
    (then_cmp (on (λ a. a.event) event_cmp) (on (λ a. a.to) nat_cmp))
