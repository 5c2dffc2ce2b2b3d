-- (text) The current graph of a lineage as a given graph: its inserted signals are internal ones,
-- and its states have names that a text of a graph may have.
use Rattle.std.specs.Prelude.{ℕ, ◌==◌, List, [], map, if◌then◌else◌}
use Rattle.std.specs.List.{range_with_len}
use Rattle.si_base.specs.declared.graph.Signal.{Signal}
use Rattle.si_base.specs.declared.graph.SigKind.{SigKind}
use Rattle.si_base.specs.declared.graph.SigKind.TheVariants.{Input, Output, Internal, Inserted}
use Rattle.si_base.specs.Bytes.{at_sign, underscore}
use Rattle.si_base.specs.Codes.{CodedGraph}
use Rattle.si_base.specs.GivenGraph.{Sg}
use Rattle.si_base.specs.Graph.{StateGraph}
use Rattle.si_base.specs.Netlist.{Netlist}
use Rattle.si_circuit.specs.Spelling.{current_word}
use Rattle.si_insert.specs.Lineage.{History}

-- ---- signals
-- an inserted signal is an internal one, and the others are what they were
abbrev pub given_kind : SigKind → SigKind
given_kind Input = Input
given_kind Output = Output
given_kind Internal = Internal
given_kind Inserted = Internal

abbrev pub given_signal : Signal → Signal
given_signal x = record { name = x.name; kind = given_kind x.kind }

-- the same graph over such signals
abbrev pub internal_graph : StateGraph → StateGraph
internal_graph g = record {
  signals = map given_signal g.signals;
  states = g.states;
  edges = g.edges;
  start = g.start;
}

-- with its codes
abbrev pub internal_coded : CodedGraph → CodedGraph
internal_coded c = record { graph = internal_graph c.graph; codes = c.codes }

-- a netlist over such signals: the same gates, and no insertion
abbrev pub internal_netlist : Netlist → Netlist
internal_netlist n = record {
  model = n.model;
  signals = map given_signal n.signals;
  start = n.start;
  inserts = [];
  gates = n.gates;
}

-- ---- states
-- `_` in place of `@`
abbrev pub name_byte : ℕ → ℕ
name_byte b = if b == at_sign then underscore else b

-- the name of state s of the current graph: its word, with `_` in place of `@`
abbrev pub current_name : List (List ℕ) → History → ℕ → List ℕ
current_name states l s = map name_byte (current_word states l s)

-- the names of all states, in their order
abbrev pub current_names : List (List ℕ) → History → List (List ℕ)
current_names states l = map (current_name states l) (range_with_len 0 l.current.coded.graph.states)

-- ---- both
-- the current graph as a given one, with this model, where the given states have these names
abbrev pub current_sg : (model : List ℕ) → (states : List (List ℕ)) → History → Sg
current_sg model states l = record {
  model = model;
  graph = internal_graph l.current.coded.graph;
  states = current_names states l;
}
