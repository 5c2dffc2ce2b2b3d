-- (field) Mapping: the best divisor is inserted as a signal, again and again, while one serves.
use Rattle.std.specs.Prelude.{◌≡◌, ℕ, List, codes}
use Rattle.si_cell.specs.Library.{Library}
use Rattle.si_circuit.specs.Cells.{AllFit, IsFirstUnfit}
use Rattle.si_insert.specs.declared.lineage.TraceStep.{TraceStep}
use Rattle.si_insert.specs.Fresh.{IsFresh}
use Rattle.si_insert.specs.Lineage.{Current, Inserts, IsTrace}
use Rattle.si_map.specs.Best.{Choice, IsBest, NoneServes}

-- the best divisor of v is inserted as `map` and makes u
pub record InsertsDivisor (library : Library) (v : Current) (p : TraceStep) (u : Current) : Type 0
  where
    pub choice : Choice
    pub best : IsBest v.coded library choice
    pub classes_are : p.partition ≡ choice.classes
    pub name : IsFresh v.coded.graph.signals (codes "map") p.name
    pub inserts : Inserts v p u

-- such insertions, one after another, lead from v to w
abbrev pub IsMappingTrace : Library → Current → List TraceStep → Current → Type 0
IsMappingTrace library v trace w = IsTrace (InsertsDivisor library) v trace w

-- the trace ends where each signal that the circuit drives fits a cell
pub record EndsMapped (library : Library) (v : Current) (trace : List TraceStep) (w : Current)
    : Type 0 where
  pub goes : IsMappingTrace library v trace w
  pub done : AllFit w.coded library

-- the graph has a first signal that fits no cell, and no divisor serves
pub record IsStuck (library : Library) (w : Current) (z : ℕ) : Type 0 where
  pub first : IsFirstUnfit w.coded library z
  pub none : NoneServes w.coded library

-- the trace ends at a graph of that kind
pub record EndsUnmapped (library : Library) (v : Current) (trace : List TraceStep) (w : Current)
    (z : ℕ) : Type 0 where
  pub goes : IsMappingTrace library v trace w
  pub stuck : IsStuck library w z
