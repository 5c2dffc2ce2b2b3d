-- What is kept while chains are offered.
use Rattle.std.specs.Prelude.{◌≡◌, ℕ, ◌≤◌, List, Option, Some, IsTrue, All, IfSome}
use Rattle.si_base.specs.declared.graph.Signal.{Signal}
use Rattle.si_base.specs.Codes.{CodedGraph}
use Rattle.si_base.specs.Words.{is_signal_name}
use Rattle.si_circuit.specs.Circuits.{LineageNetlist}
use Rattle.si_insert.specs.Lineage.{History}
use Rattle.si_suggest.specs.Literals.{literals_of}

-- the signals have signal names
abbrev pub AreNamed : List Signal → Type 0
AreNamed signals = All (λ x. IsTrue (is_signal_name x.name)) signals

-- a lineage of the graph, whose signals have signal names
pub record IsNamedLineage (given : CodedGraph) (l : History) : Type 0 where
  pub given_is : l.given ≡ given
  pub named : AreNamed l.current.coded.graph.signals

-- where there was a netlist, there is one, with no more literals
abbrev pub IsNoHeavierThan : Option LineageNetlist → Option LineageNetlist → Type 0
IsNoHeavierThan before now = IfSome before
    (λ x. (y : LineageNetlist) × (now ≡ Some y) × (literals_of y.netlist ≤ literals_of x.netlist))
