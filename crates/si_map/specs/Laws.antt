-- (law) The laws of mapping, one word each.
use Rattle.std.specs.Prelude.{◌≡◌, ℕ, ◌+◌, ◌≤◌, ◌⊎◌, List, [], ◌++◌, length}
use Rattle.si_base.specs.Codes.{CodedGraph, IsCoded}
use Rattle.si_base.specs.Proper.{IsProper, HasNoConflict}
use Rattle.si_base.specs.Netlist.{Netlist}
use Rattle.si_base.specs.Behaviour.{Implements}
use Rattle.si_cell.specs.Library.{Library}
use Rattle.si_circuit.specs.Cells.{AllFit, IsFirstUnfit}
use Rattle.si_insert.specs.declared.lineage.TraceStep.{TraceStep}
use Rattle.si_insert.specs.Lineage.{Current, IsLineage}
use Rattle.si_insert.specs.Built.{IsBuilt}
use Rattle.si_match.specs.Weight.{weight_of}
use Rattle.si_map.specs.Best.{Choice, IsBest}
use Rattle.si_map.specs.Trace.{IsMappingTrace, EndsMapped, EndsUnmapped}

-- each signal that the circuit drives fits a cell, or there is a first that doesn't, and one only
abbrev pub FitOrNot : Type 0
FitOrNot = (c : CodedGraph) (library : Library) → AllFit c library
    ⊎ ((z : ℕ) × IsFirstUnfit c library z)

abbrev pub FirstUnfitIsUnique : Type 0
FirstUnfitIsUnique = (c : CodedGraph) (library : Library) (y z : ℕ)
    → IsFirstUnfit c library y → IsFirstUnfit c library z → y ≡ z

abbrev pub FitExcludesUnfit : Type 0
FitExcludesUnfit = (c : CodedGraph) (library : Library) (z : ℕ) → AllFit c library
    → IsFirstUnfit c library z → ⊥

-- ---- the best divisor
abbrev pub BestIsUnique : Type 0
BestIsUnique = (c : CodedGraph) (library : Library) (x y : Choice) → IsCoded c
    → IsBest c library x → IsBest c library y → x ≡ y

-- ---- traces
-- each insertion lowers the weight
abbrev pub TracesAreShort : Type 0
TracesAreShort = (library : Library) (v : Current) (trace : List TraceStep) (w : Current)
    → IsCoded v.coded → IsMappingTrace library v trace w
    → length trace + weight_of w.coded library ≤ weight_of v.coded library

-- and leaves no conflict
abbrev pub TracesLeaveNoConflict : Type 0
TracesLeaveNoConflict = (library : Library) (v : Current) (trace : List TraceStep) (w : Current)
    → IsCoded v.coded → HasNoConflict v.coded → IsMappingTrace library v trace w
    → HasNoConflict w.coded

-- where all signals fit, nothing is inserted
abbrev pub FittedIsMapped : Type 0
FittedIsMapped = (library : Library) (v : Current) (trace : List TraceStep) (w : Current)
    → AllFit v.coded library → IsMappingTrace library v trace w → trace ≡ []

abbrev pub MappedIsUnique : Type 0
MappedIsUnique = (library : Library) (v : Current) (xs ys : List TraceStep) (w u : Current)
    → IsCoded v.coded → EndsMapped library v xs w → EndsMapped library v ys u → (xs ≡ ys) × (w ≡ u)

abbrev pub UnmappedIsUnique : Type 0
UnmappedIsUnique = (library : Library) (v : Current) (xs ys : List TraceStep) (w u : Current)
    (y z : ℕ) → IsCoded v.coded → EndsUnmapped library v xs w y → EndsUnmapped library v ys u z
    → (xs ≡ ys) × (w ≡ u) × (y ≡ z)

abbrev pub EndsExclude : Type 0
EndsExclude = (library : Library) (v : Current) (xs ys : List TraceStep) (w u : Current) (z : ℕ)
    → IsCoded v.coded → EndsMapped library v xs w → EndsUnmapped library v ys u z → ⊥

-- a lineage and a mapping trace from it are a lineage
abbrev pub TracesAreLineages : Type 0
TracesAreLineages = (library : Library) (given : CodedGraph) (before trace : List TraceStep)
    (v w : Current) → IsLineage given before v → IsMappingTrace library v trace w
    → IsLineage given (before ++ trace) w

-- right gates for the last graph of a mapping trace implement the given graph
abbrev pub TracesImplement : Type 0
TracesImplement = (library : Library) (given : CodedGraph) (before trace : List TraceStep)
    (v w : Current) (n : Netlist) → IsLineage given before v → IsMappingTrace library v trace w
    → IsBuilt w n → Implements n given.graph

-- from each proper graph without conflicts a trace ends: mapped, or with a first signal that fits
-- no cell
abbrev pub MappingEnds : Type 0
MappingEnds = (library : Library) (v : Current) → IsCoded v.coded
    → IsProper v.coded.graph → HasNoConflict v.coded
    → (trace : List TraceStep) × (w : Current)
    × (EndsMapped library v trace w ⊎ ((z : ℕ) × EndsUnmapped library v trace w z))
