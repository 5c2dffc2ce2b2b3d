-- (field) Circuits: a lineage without conflicts, and a netlist for it.
use Rattle.std.specs.Prelude.{◌≡◌, ℕ, List, length, map, All}
use Rattle.si_base.specs.Behaviour.{Implements}
use Rattle.si_base.specs.Graph.{StateGraph}
use Rattle.si_base.specs.Netlist.{Netlist}
use Rattle.si_base.specs.Words.{IsStateName}
use Rattle.si_insert.specs.Built.{IsBuilt}
use Rattle.si_insert.specs.Lineage.{History}
use Rattle.si_circuit.specs.declared.style.Style.{Style}
use Rattle.si_circuit.specs.Gates.{gate_of, netlist_of}
use Rattle.si_circuit.specs.Spelling.{insertions_of}

-- a state name for each state of the graph
pub record AreStateNames (g : StateGraph) (names : List (List ℕ)) : Type 0 where
  pub count : length names ≡ g.states
  pub each : All IsStateName names

-- the netlist of the chosen gates for the lineage's current graph, with the insertions of its trace
abbrev pub circuit_of : Style → List ℕ → List (List ℕ) → History → Netlist
circuit_of style model states l =
    netlist_of (gate_of style l.current.coded) model (insertions_of states l) l.current.coded

-- a lineage and a netlist
pub record LineageNetlist : Type 0 where
  pub lineage : History
  pub netlist : Netlist

-- the netlist has the signals, the start and the next values of the current graph, and the
-- insertions of the trace; so it implements the given graph
pub record IsCircuit (l : History) (n : Netlist) : Type 0 where
  pub built : IsBuilt l.current n
  pub inserted : map (λ i. i.name) n.inserts ≡ map (λ p. p.name) l.trace
  pub implements : Implements n l.given.graph
