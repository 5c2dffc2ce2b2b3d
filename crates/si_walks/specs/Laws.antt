-- (law) The laws of first paths, and of conflicts whose states input events join, one word each.
use Rattle.std.specs.Prelude.{◌≡◌, ℕ, ◌<◌, ◌⊎◌, List}
use Rattle.si_base.specs.declared.ids.Event.{Event}
use Rattle.si_base.specs.Graph.{StateGraph}
use Rattle.si_base.specs.Codes.{CodedGraph, IsCoded, IsConnected, IsDeterministic}
use Rattle.si_base.specs.Proper.{IsConflict, HasNoConflict}
use Rattle.si_insert.specs.declared.lineage.TraceStep.{TraceStep}
use Rattle.si_insert.specs.Lineage.{Current, IsLineage, Keeps}
use Rattle.si_walks.specs.Paths.{IsWayTo}
use Rattle.si_walks.specs.Walks.{InputsLead, IsFirstWalk}
use Rattle.si_walks.specs.declared.arcs.Arcs.TheVariants.{All}
use Rattle.si_walks.specs.Joined.{IsJoinedConflict, HasConflictFrom}

-- a conflict is joined where input events alone lead from one of its states to the other
abbrev pub WalkJoinsConflict : Type 0
WalkJoinsConflict = (c : CodedGraph) (pair : ℕ × ℕ)
    → IsConflict c pair
    → InputsLead c.graph pair.0 pair.1 ⊎ InputsLead c.graph pair.1 pair.0
    → IsJoinedConflict c pair

-- whatever is inserted, the current graph has a conflict whose states come from those two
abbrev pub JoinedConflictStays : Type 0
JoinedConflictStays = (given : CodedGraph) (trace : List TraceStep) (v : Current) (pair : ℕ × ℕ)
    → IsLineage given trace v → IsJoinedConflict given pair
    → HasConflictFrom v pair.0 pair.1

-- the same from what the accessors of a lineage hand out
abbrev pub KeptJoinedConflictStays : Type 0
KeptJoinedConflictStays = (given : CodedGraph) (v : Current) (pair : ℕ × ℕ)
    → IsCoded given → Keeps given v → IsJoinedConflict given pair
    → HasConflictFrom v pair.0 pair.1

-- so no lineage of a graph with such a conflict is without conflicts
abbrev pub JoinedIsNeverResolved : Type 0
JoinedIsNeverResolved = (given : CodedGraph) (trace : List TraceStep) (v : Current) (pair : ℕ × ℕ)
    → IsLineage given trace v → IsJoinedConflict given pair
    → HasNoConflict v.coded → ⊥

-- the first path to a state has its events alone
abbrev pub WaysAreUnique : Type 0
WaysAreUnique = (g : StateGraph) (s : ℕ) (es fs : List Event) → IsWayTo g s es → IsWayTo g s fs
    → es ≡ fs

-- to each state of a connected graph there is one
abbrev pub WaysExist : Type 0
WaysExist = (g : StateGraph) → IsConnected g → (s : ℕ) → s < g.states
    → (es : List Event) × IsWayTo g s es

-- and in a deterministic graph they are the first walk from the start
abbrev pub WaysAreFirstWalks : Type 0
WaysAreFirstWalks = (g : StateGraph) (s : ℕ) (es : List Event) → IsDeterministic g → IsWayTo g s es
    → IsFirstWalk g All g.start s es
