-- (law) What laws say of signals that are inserted by their gates.
use Rattle.std.specs.Prelude.{◌≡◌, ℕ, List, length, Ok, None}
use Rattle.si_base.specs.Codes.{CodedGraph}
use Rattle.si_base.specs.GivenGraph.{Sg}
use Rattle.si_base.specs.Graph.{names_in}
use Rattle.si_insert.specs.Lineage.{Extends, History, given_history}
use Rattle.si_insert.specs.declared.partition.Class.{Class}
use Rattle.si_inserted.specs.Current.{current_sg}
use Rattle.si_readings.specs.Checks.{IsSound}
use Rattle.si_sg.specs.CanonicalText.{sg_text}
use Rattle.si_sg.specs.GivenGraph.{IsGivenBy}
use Rattle.si_stages.specs.InsertedLaws.{HasFewArcs}
use Rattle.si_by_hand.specs.ByHand.{by_hand, step_of}
use Rattle.si_by_hand.specs.GateLaws.{HasNextValues}
use Rattle.si_by_hand.specs.GateText.{NewGate, gate_text_fault, new_gate}
use Rattle.si_by_hand.specs.Partitions.{IsAcceptedFor}

-- the text of the graph that the one text gives after one insertion: that of the signal of the
-- other text, by the partition for its gate, which so has the signal's next values. Where it has
-- no more arcs than are read, it is read back as that graph
pub record IsMadeByHand (text gate output : List ℕ) : Type 0 where
  pub given : Sg
  pub is_given : IsGivenBy text given
  pub no_fault : gate_text_fault (names_in given.graph.signals) gate ≡ None
  pub made : NewGate
  pub made_is : made ≡ new_gate (names_in given.graph.signals) gate
  pub coded : CodedGraph
  pub sound : IsSound given.graph coded
  pub classes : List Class
  pub partition : IsAcceptedFor coded made.gate classes
  pub lineage : History
  pub extends : Extends (given_history coded) (step_of made.name classes) lineage
  pub serves : HasNextValues lineage.current.coded (length coded.graph.signals) made.gate
  pub text_is : output ≡ sg_text (current_sg given.model given.states lineage)
  pub back : HasFewArcs lineage → IsGivenBy output (current_sg given.model given.states lineage)

-- such is what the command comes to
abbrev pub OutputsAreMadeByHand : Type 0
OutputsAreMadeByHand = (file text gate_file gate output : List ℕ)
    → by_hand file text gate_file gate (Ok output) → IsMadeByHand text gate output
