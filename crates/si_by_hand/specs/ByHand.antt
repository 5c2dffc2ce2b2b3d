-- (command) What `insert` with a gate means over the texts of its files: the graph after the
-- insertion of the gate's signal, as a text.
use Rattle.std.specs.Prelude.{ℕ, List}
use Rattle.si_base.specs.Codes.{CodedGraph}
use Rattle.si_base.specs.GivenGraph.{Sg}
use Rattle.si_insert.specs.Lineage.{Extends, History, given_history}
use Rattle.si_insert.specs.declared.lineage.TraceStep.{TraceStep}
use Rattle.si_insert.specs.declared.partition.Class.{Class}
use Rattle.si_readings.specs.Checks.{proper}
use Rattle.si_refusals.specs.Refusal.{TextRefusal}
use Rattle.si_refusals.specs.Stages.{Stage, ◌>>=◌, shows}
use Rattle.si_stages.specs.Inserted.{current_text}
use Rattle.si_by_hand.specs.GateText.{NewGate}
use Rattle.si_by_hand.specs.HandReadings.{hand_readings}
use Rattle.si_by_hand.specs.Partitions.{partition_for}

-- the insertion of a signal of that name by a partition
abbrev pub step_of : (name : List ℕ) → List Class → TraceStep
step_of name classes = record { name = name; partition = classes }

-- the lineage of the graph with that insertion
abbrev pub lineage_with : CodedGraph → (name : List ℕ) → List Class → Stage TextRefusal History
lineage_with c name classes = shows (Extends (given_history c) (step_of name classes))

-- the text of a proper graph after the insertion of the gate's signal
abbrev pub text_with_gate : (model : List ℕ) (states : List (List ℕ)) → CodedGraph → NewGate
    → Stage TextRefusal (List ℕ)
text_with_gate model states c made = do
  classes ← partition_for states c made
  lineage ← lineage_with c made.name classes
  current_text model states lineage

-- the same of a graph that is read
abbrev pub text_by_hand : Sg → NewGate → Stage TextRefusal (List ℕ)
text_by_hand given made = do
  c ← proper given.graph given.states
  text_with_gate given.model given.states c made

abbrev pub by_hand : (graph graph_text gate gate_text : List ℕ) → Stage TextRefusal (List ℕ)
by_hand graph graph_text gate gate_text = do
  readings ← hand_readings graph graph_text gate gate_text
  text_by_hand readings.given readings.made
