-- (field) What was read of a graph: its codes where it has any, its first breach where it isn't
-- proper, and the states and arcs that show the breach.
use Rattle.std.specs.Prelude.{ℕ, ◌==◌, ◌&&◌, ◌||◌, Bool, false}
use Rattle.std.specs.List.{list_any}
use Rattle.si_base.specs.declared.graph.Edge.{Edge}
use Rattle.si_base.specs.declared.ids.Event.{Event}
use Rattle.si_base.specs.Graph.{StateGraph, same_event}
use Rattle.si_pictures.specs.declared.seen.Breach.{Breach}
use Rattle.si_pictures.specs.declared.seen.Breach.TheVariants.{Nondeterministic, Inconsistent}
use Rattle.si_pictures.specs.declared.seen.Breach.TheVariants.{Noncommutative, Nonpersistent}
use Rattle.si_pictures.specs.declared.seen.Seen.{Seen}
use Rattle.si_pictures.specs.declared.seen.Seen.TheVariants.{Proper, Coded, Uncoded}

-- the graph: proper, or with codes and a first breach, or without codes and with a first breach
abbrev pub graph_of : Seen → StateGraph
graph_of (Proper c) = c.graph
graph_of (Coded c breach) = c.graph
graph_of (Uncoded g breach) = g

-- ---- the breach

-- the arc leads from s by e to t
abbrev pub is_step : ℕ → Event → ℕ → Edge → Bool
is_step s e t a = (a.from == s) && same_event a.event e && (a.to == t)

-- s leads by e to t
abbrev pub leads : StateGraph → ℕ → Event → ℕ → Bool
leads g s e t = list_any (is_step s e t) g.edges

-- the arc leaves s by the one event, or by the other event a state to which the one leads
abbrev pub is_on_way : StateGraph → ℕ → (one other : Event) → Edge → Bool
is_on_way g s one other a = ((a.from == s) && same_event a.event one)
    || (same_event a.event other && leads g s one a.from)

-- the state at which it shows; no values of a signal show at no state
abbrev pub is_breach_state : Breach → ℕ → Bool
is_breach_state (Nondeterministic s e t u) k = k == s
is_breach_state (Inconsistent sig) k = false
is_breach_state (Noncommutative s a c) k = k == s
is_breach_state (Nonpersistent s lost by) k = k == s

-- the arcs that show it: the two of the event that leads to two states; all of the signal that has
-- no values; those of the two events in both orders; those of the lost event, and of the one that
-- disables it
abbrev pub is_breach_arc : StateGraph → Breach → Edge → Bool
is_breach_arc g (Nondeterministic s e t u) x = is_step s e t x || is_step s e u x
is_breach_arc g (Inconsistent sig) x = x.event.sig == sig
is_breach_arc g (Noncommutative s a c) x = is_on_way g s a c x || is_on_way g s c a x
is_breach_arc g (Nonpersistent s lost by) x =
    (x.from == s) && (same_event x.event lost || same_event x.event by)

-- the arc shows the first breach
abbrev pub is_red_arc : Seen → Edge → Bool
is_red_arc (Proper c) a = false
is_red_arc (Coded c breach) a = is_breach_arc c.graph breach a
is_red_arc (Uncoded g breach) a = is_breach_arc g breach a
