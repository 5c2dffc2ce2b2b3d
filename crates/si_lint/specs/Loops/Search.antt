-- What the parts of the searches look for.
use Rattle.std.specs.Prelude.{◌≡◌, ℕ, List, Contains}
use Rattle.si_base.specs.declared.graph.Edge.{Edge}
use Rattle.si_base.specs.Codes.{CodedGraph}
use Rattle.si_base.specs.Graph.{StateGraph}
use Rattle.si_carried.specs.Always.{Leads}
use Rattle.si_walks.specs.Twins.{IsTwinConflict}

-- the start can be reached before the arc, and not after it
abbrev pub IsLost : StateGraph → Edge → Type 0
IsLost g a = Leads g a.from g.start × (Leads g a.to g.start → ⊥)

-- some arc switches the signal
abbrev pub IsSwitched : List Edge → ℕ → Type 0
IsSwitched edges z = (a : Edge) × Contains edges a × (a.event.sig ≡ z)

-- a conflict of twins whose first state is p
abbrev pub IsTwinConflictOf : CodedGraph → ℕ → ℕ × ℕ → Type 0
IsTwinConflictOf c p pair = IsTwinConflict c pair × (pair.0 ≡ p)
