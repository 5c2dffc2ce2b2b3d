-- (command) A netlist that is written for a given graph.
use Rattle.std.specs.Prelude.{◌≡◌, ℕ, List}
use Rattle.si_base.specs.Behaviour.{Implements}
use Rattle.si_base.specs.GivenGraph.{Sg}
use Rattle.si_base.specs.Netlist.{Netlist}
use Rattle.si_base.specs.NetlistText.{netlist_text}
use Rattle.si_base.specs.System.{IsFor}
use Rattle.si_base.specs.WellFormed.{IsNetlist}
use Rattle.si_circuit.specs.Circuits.{IsCircuit}
use Rattle.si_insert.specs.Lineage.{History}

-- the text is that of a netlist with the model of the given graph, its signals and the values of
-- its start; the netlist implements that graph, and is the circuit of the lineage
pub record IsWritten (given : Sg) (l : History) (text : List ℕ) : Type 0 where
  pub netlist : Netlist
  pub is_netlist : IsNetlist netlist
  pub text_is : text ≡ netlist_text netlist
  pub model_is : netlist.model ≡ given.model
  pub graph_is : l.given.graph ≡ given.graph
  pub is_for : IsFor l.given netlist
  pub implements : Implements netlist given.graph
  pub circuit : IsCircuit l netlist
