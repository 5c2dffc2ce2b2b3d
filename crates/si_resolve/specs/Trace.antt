-- (field) Resolving: the best candidate is inserted while it has fewer conflicts than the graph.
use Rattle.std.specs.Prelude.{◌≡◌, ℕ, List, codes}
use Rattle.si_base.specs.Proper.{HasNoConflict}
use Rattle.si_insert.specs.declared.lineage.TraceStep.{TraceStep}
use Rattle.si_insert.specs.Fresh.{IsFresh}
use Rattle.si_insert.specs.Lineage.{Current, Inserts, IsTrace}
use Rattle.si_resolve.specs.Best.{Choice, Improves, IsStuck}

-- the best candidate of v, which has fewer conflicts than v, is inserted as `csc` and makes u
pub record InsertsCandidate (v : Current) (p : TraceStep) (u : Current) : Type 0 where
  pub choice : Choice
  pub improves : Improves v.coded choice
  pub classes_are : p.partition ≡ choice.classes
  pub name : IsFresh v.coded.graph.signals (codes "csc") p.name
  pub inserts : Inserts v p u

-- such insertions, one after another, lead from v to w
abbrev pub IsResolvingTrace : Current → List TraceStep → Current → Type 0
IsResolvingTrace v trace w = IsTrace InsertsCandidate v trace w

-- the trace ends at a graph without conflicts
pub record EndsResolved (v : Current) (trace : List TraceStep) (w : Current) : Type 0 where
  pub goes : IsResolvingTrace v trace w
  pub done : HasNoConflict w.coded

-- the trace ends at a graph that it can't better, with its first conflict
pub record EndsUnresolved (v : Current) (trace : List TraceStep) (w : Current) (pair : ℕ × ℕ)
    : Type 0 where
  pub goes : IsResolvingTrace v trace w
  pub stuck : IsStuck w.coded pair
