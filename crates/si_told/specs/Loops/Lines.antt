-- The lines that are added for what was found, where some have walks.
use Rattle.std.specs.Prelude.{◌≡◌, ℕ, ◌<◌, List, ◌++◌, length}
use Rattle.si_base.specs.declared.ids.Event.{Event}
use Rattle.si_base.specs.declared.graph.Edge.{Edge}
use Rattle.si_base.specs.Graph.{StateGraph}
use Rattle.si_base.specs.Proper.{Loss}
use Rattle.si_base.specs.Words.{text_of}
use Rattle.si_walks.specs.Paths.{IsWayTo}

-- for each state the events of the first path from the start to it
abbrev pub AreWays : StateGraph → (ℕ → List Event) → Type 0
AreWays g walk = (s : ℕ) → s < g.states → IsWayTo g s (walk s)

-- the text goes on with these lines, whatever gives the first paths
abbrev pub AddsLines : StateGraph → ((ℕ → List Event) → List (List (List ℕ))) → List ℕ → List ℕ
    → Type 0
AddsLines g lines old new =
    (walk : ℕ → List Event) → AreWays g walk → new ≡ old ++ text_of (lines walk)

-- the states and signals of what is printed are those of the graph
abbrev pub ArcIsWithin : StateGraph → Edge → Type 0
ArcIsWithin g a = (a.from < g.states) × (a.event.sig < length g.signals) × (a.to < g.states)

abbrev pub LossIsWithin : StateGraph → Loss → Type 0
LossIsWithin g b = (b.s < g.states) × (b.lost.sig < length g.signals)
    × (b.by.sig < length g.signals)
