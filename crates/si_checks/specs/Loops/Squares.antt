-- Pairs of arcs that close to squares.
use Rattle.std.specs.Prelude.{◌≡◌, ℕ, ◌<◌, IsTrue, Contains}
use Rattle.si_base.specs.declared.graph.Edge.{Edge}
use Rattle.si_base.specs.Graph.{StateGraph, Step, enables, IsNonInput, event_place}

-- two arcs out of one state: where both orders of their events can fire both end in one state, and
-- after either arc the event of the other is still enabled if it isn't an input's
pub record ClosesSquare (g : StateGraph) (x y : Edge) : Type 0 where
  pub meets : (w w2 : ℕ) → Step g x.to y.event w → Step g y.to x.event w2 → w ≡ w2
  pub one_stays : IsNonInput g.signals x.event.sig → IsTrue (enables g y.to x.event)
  pub other_stays : IsNonInput g.signals y.event.sig → IsTrue (enables g x.to y.event)

-- any two arcs out of s with different events do so
abbrev pub ClosesSquares : StateGraph → ℕ → Type 0
ClosesSquares g s = (x y : Edge) → Contains g.edges x → Contains g.edges y → x.from ≡ s → y.from ≡ s
    → event_place x.event < event_place y.event → ClosesSquare g x y
