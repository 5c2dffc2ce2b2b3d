-- (law) Texts of graphs and netlists that are right together.
use Rattle.std.specs.Prelude.{◌≡◌, ℕ, List, [], ◌∷◌, length, None, slice_index_or}
use Rattle.si_base.specs.Behaviour.{Implements}
use Rattle.si_base.specs.GivenGraph.{Sg}
use Rattle.si_base.specs.Graph.{StateGraph}
use Rattle.si_base.specs.Netlist.{Netlist}
use Rattle.si_compose.specs.Composed.{IsComposed, IsFree}
use Rattle.si_compose.specs.JoinedNetlist.{IsJoined}
use Rattle.si_compose.specs.Laws.{IsOver}
use Rattle.si_netlist_reader.specs.NetlistFault.{netlist_fault}
use Rattle.si_netlist_reader.specs.NetlistValue.{netlist_of}
use Rattle.si_sg.specs.GivenGraph.{IsGivenBy}

-- a list two by two
abbrev pub two_by_two : List (List ℕ) → List (List ℕ × List ℕ)
two_by_two [] = []
two_by_two (one ∷ []) = []
two_by_two (one ∷ (other ∷ more)) = (one, other) ∷ two_by_two more

-- each two texts give a graph, and a netlist without fault
abbrev pub ArePairs : (texts : List (List ℕ × List ℕ)) → List Sg → Type 0
ArePairs [] [] = Unit {0}
ArePairs (t ∷ texts) (g ∷ gs) = IsGivenBy t.0 g × (netlist_fault t.1 ≡ None) × ArePairs texts gs
ArePairs [] (g ∷ gs) = ⊥
ArePairs (t ∷ texts) [] = ⊥

-- graph i of those given, and netlist i of those that the texts spell
abbrev pub graph_at : List Sg → ℕ → StateGraph
graph_at given i = (slice_index_or given i (record {
  model = [];
  graph = record { signals = []; states = 0; edges = []; start = 0 };
  states = [];
})).graph

abbrev pub netlist_at : (texts : List (List ℕ × List ℕ)) → ℕ → Netlist
netlist_at texts i = netlist_of (slice_index_or texts i ([], [])).1

-- the netlists implement together each graph that is composed of their graphs; there is one, and
-- each is free of interference
pub record AreRight (texts : List (List ℕ × List ℕ)) : Type 0 where
  pub given : List Sg
  pub pairs : ArePairs texts given
  pub some : (at : ℕ → ℕ → ℕ) × (h : StateGraph) × IsComposed (length given) (graph_at given) at h
  pub free : (at : ℕ → ℕ → ℕ) (h : StateGraph) → IsComposed (length given) (graph_at given) at h
      → IsFree (length given) (graph_at given) at h
  pub serves : (at : ℕ → ℕ → ℕ) (h : StateGraph) (m : Netlist)
      → IsComposed (length given) (graph_at given) at h
      → IsJoined (length given) (netlist_at texts) m → IsOver h m → Implements m h
