-- (command) The readings of a graph and of the gate of a new signal.
use Rattle.std.specs.Prelude.{ℕ, List}
use Rattle.si_base.specs.GivenGraph.{Sg}
use Rattle.si_base.specs.Graph.{names_in}
use Rattle.si_base.specs.declared.graph.Signal.{Signal}
use Rattle.si_readings.specs.Readings.{graph_in, spelled_value}
use Rattle.si_refusals.specs.Refusal.{TextRefusal}
use Rattle.si_refusals.specs.Stages.{Stage, ◌>>=◌, gives}
use Rattle.si_by_hand.specs.GateText.{NewGate, gate_text_fault, new_gate}

-- the new signal that a text spells beside these signals
abbrev pub gate_in : (file : List ℕ) → List Signal → (text : List ℕ) → Stage TextRefusal NewGate
gate_in file signals text = let names = names_in signals in
    spelled_value file (gate_text_fault names text) (new_gate names text)

-- a graph, and a new signal
pub record HandReadings : Type 0 where
  pub given : Sg
  pub made : NewGate

abbrev pub hand_readings : (graph graph_text gate gate_text : List ℕ)
    → Stage TextRefusal HandReadings
hand_readings graph graph_text gate gate_text = do
  given ← graph_in graph graph_text
  made ← gate_in gate given.graph.signals gate_text
  gives (record { given = given; made = made })
