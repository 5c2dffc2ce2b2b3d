-- (law) The laws of the text that explains conflicts, one word each.
use Rattle.std.specs.Prelude.{◌≡◌, ◌≤◌, ◌↔◌, List, ℕ, Some, None, IsTrue}
use Rattle.si_base.specs.Codes.{CodedGraph, IsCoded}
use Rattle.si_base.specs.Proper.{IsConflict}
use Rattle.si_insert.specs.declared.lineage.TraceStep.{TraceStep}
use Rattle.si_insert.specs.Lineage.{Current, IsLineage}
use Rattle.si_resolve.specs.Trace.{EndsResolved, EndsUnresolved}
use Rattle.si_walks.specs.Joined.{Source, IsJoinedConflict}
use Rattle.si_walks.specs.Twins.{IsTwinConflict, max_twin_states}
use Rattle.si_kin.specs.Kin.{IsKinConflict}
use Rattle.si_explain.specs.ExplainText.{Explained, IsExplained, IsExplainText}

-- a graph with names for its states has one such text at most
abbrev pub ExplainTextsAreUnique : Type 0
ExplainTextsAreUnique = (c : CodedGraph) (states : List (List ℕ)) (x y : List ℕ)
    → IsExplainText c states x → IsExplainText c states y → x ≡ y

-- and has one
abbrev pub ExplainTextsExist : Type 0
ExplainTextsExist = (c : CodedGraph) (states : List (List ℕ)) → IsCoded c
    → (text : List ℕ) × IsExplainText c states text

-- a conflict that is explained with a source is one that input events join
abbrev pub SourcesShowJoined : Type 0
SourcesShowJoined = (c : CodedGraph) (x : Explained) (source : Source)
    → IsConflict c x.pair → IsExplained c x → x.source ≡ Some source → IsJoinedConflict c x.pair

-- and one that is explained without isn't
abbrev pub NoSourceShowsNone : Type 0
NoSourceShowsNone = (c : CodedGraph) (x : Explained)
    → IsExplained c x → x.source ≡ None → IsJoinedConflict c x.pair → ⊥

-- no resolving trace of a lineage of a graph with such a conflict ends resolved
abbrev pub JoinedNeverResolve : Type 0
JoinedNeverResolve = (given : CodedGraph) (before trace : List TraceStep) (v w : Current)
    (pair : ℕ × ℕ)
    → IsLineage given before v → IsJoinedConflict given pair → EndsResolved v trace w → ⊥

-- one ends unresolved
abbrev pub JoinedEndUnresolved : Type 0
JoinedEndUnresolved = (given : CodedGraph) (before : List TraceStep) (v : Current) (pair : ℕ × ℕ)
    → IsLineage given before v → IsJoinedConflict given pair
    → (trace : List TraceStep) × (w : Current) × (last : ℕ × ℕ) × EndsUnresolved v trace w last

-- of a graph whose pairs are looked at, a conflict is told to be one of twins just where it is
abbrev pub TwinsAreTold : Type 0
TwinsAreTold = (c : CodedGraph) (x : Explained) → c.graph.states ≤ max_twin_states
    → IsConflict c x.pair → IsExplained c x → IsTrue x.twins ↔ IsTwinConflict c x.pair

-- no resolving trace of a lineage of a graph with such a conflict ends resolved
abbrev pub TwinsNeverResolve : Type 0
TwinsNeverResolve = (given : CodedGraph) (before trace : List TraceStep) (v w : Current)
    (pair : ℕ × ℕ)
    → IsLineage given before v → IsTwinConflict given pair → EndsResolved v trace w → ⊥

-- one ends unresolved
abbrev pub TwinsEndUnresolved : Type 0
TwinsEndUnresolved = (given : CodedGraph) (before : List TraceStep) (v : Current) (pair : ℕ × ℕ)
    → IsLineage given before v → IsTwinConflict given pair
    → (trace : List TraceStep) × (w : Current) × (last : ℕ × ℕ) × EndsUnresolved v trace w last

-- a conflict is told to be one of kin just where it is
abbrev pub KinAreTold : Type 0
KinAreTold = (c : CodedGraph) (x : Explained)
    → IsConflict c x.pair → IsExplained c x → IsTrue x.kin ↔ IsKinConflict c x.pair

-- no resolving trace of a lineage of a graph with such a conflict ends resolved
abbrev pub KinNeverResolve : Type 0
KinNeverResolve = (given : CodedGraph) (before trace : List TraceStep) (v w : Current)
    (pair : ℕ × ℕ)
    → IsLineage given before v → IsKinConflict given pair → EndsResolved v trace w → ⊥

-- one ends unresolved
abbrev pub KinEndUnresolved : Type 0
KinEndUnresolved = (given : CodedGraph) (before : List TraceStep) (v : Current) (pair : ℕ × ℕ)
    → IsLineage given before v → IsKinConflict given pair
    → (trace : List TraceStep) × (w : Current) × (last : ℕ × ℕ) × EndsUnresolved v trace w last
