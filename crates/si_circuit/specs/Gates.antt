-- (field) The gates that are chosen for a graph, and their netlist. Source: the book (Cortadella,
-- Kishinevsky, Kondratyev, Lavagno, Yakovlev, Logic Synthesis for Asynchronous Controllers and
-- Interfaces), on complex gates and generalised C-elements.
use Rattle.std.specs.Prelude.{ℕ, ◌+◌, List, [], ◌∷◌, ◌++◌, if◌then◌else◌}
use Rattle.si_base.specs.declared.graph.Signal.{Signal}
use Rattle.si_base.specs.Graph.{is_driven}
use Rattle.si_base.specs.Codes.{CodedGraph, code}
use Rattle.si_base.specs.Netlist.{Gate, SumGate, Gc, Insertion, Netlist}
use Rattle.si_cover.specs.declared.kind.SumKind.TheVariants.{Next, Set, Reset}
use Rattle.si_cover.specs.Demands.{chosen_sum}
use Rattle.si_circuit.specs.declared.style.Style.{Style}
use Rattle.si_circuit.specs.declared.style.Style.TheVariants.{Complex, GeneralisedC}

-- the gate of signal z: the sum of its next value, or the generalised C-element of the sums that
-- set and reset it
abbrev pub gate_of : Style → CodedGraph → ℕ → Gate
gate_of Complex c z = SumGate (chosen_sum Next c z)
gate_of GeneralisedC c z = Gc (chosen_sum Set c z) (chosen_sum Reset c z)

-- one gate for each non-input from the i-th signal on
abbrev pub gates_from : (ℕ → Gate) → ℕ → List Signal → List Gate
gates_from gate i [] = []
gates_from gate i (x ∷ xs) = (if is_driven x.kind then gate i ∷ [] else [])
    ++ gates_from gate (i + 1) xs

-- the netlist of such gates, with the signals and the start of the graph
unfoldable pub netlist_of : (gate : ℕ → Gate) (model : List ℕ) (inserts : List Insertion)
    → CodedGraph → Netlist
netlist_of gate model inserts c = record {
  model = model;
  signals = c.graph.signals;
  start = code c c.graph.start;
  inserts = inserts;
  gates = gates_from gate 0 c.graph.signals;
}

-- the netlist of the chosen gates of that style, with nothing inserted
abbrev pub chosen_netlist : Style → (model : List ℕ) → CodedGraph → Netlist
chosen_netlist style model c = netlist_of (gate_of style c) model [] c
