-- (command) A netlist that is suggested for a graph.
use Rattle.std.specs.Prelude.{◌≡◌, ℕ, ◌⊎◌, List, Ok, Err}
use Rattle.si_base.specs.Behaviour.{Implements}
use Rattle.si_base.specs.Codes.{CodedGraph}
use Rattle.si_base.specs.Netlist.{Netlist}
use Rattle.si_base.specs.NetlistText.{netlist_text}
use Rattle.si_base.specs.Order.{IsFirst}
use Rattle.si_base.specs.Proper.{HasNoConflict, pair_place}
use Rattle.si_base.specs.System.{IsFor}
use Rattle.si_base.specs.WellFormed.{IsNetlist}
use Rattle.si_circuit.specs.Circuits.{IsCircuit, LineageNetlist, circuit_of}
use Rattle.si_circuit.specs.Covered.{HasPrimeGates}
use Rattle.si_circuit.specs.Spelling.{current_word, insertions_of}
use Rattle.si_circuit.specs.declared.style.Style.{Style}
use Rattle.si_insert.specs.declared.lineage.TraceStep.{TraceStep}
use Rattle.si_insert.specs.Lineage.{Current, History, IsLineage, given_current}
use Rattle.si_readings.specs.Checks.{proper}
use Rattle.si_readings.specs.Readings.{graph_in}
use Rattle.si_refusals.specs.Refusal.{TextRefusal, NotFound, Unresolvable}
use Rattle.si_refusals.specs.Stages.{Stage, ◌>>=◌}
use Rattle.si_resolve.specs.Trace.{EndsResolved}
use Rattle.si_sg.specs.CanonicalText.{state_at}
use Rattle.si_suggest.specs.Never.{IsNeverResolved}
use Rattle.si_suggest.specs.Suggested.{IsNoHeavier, IsNotFound}

-- the output is the text of a netlist for the graph, with this model, of the chosen gates of that style, each
-- a prime and irredundant cover, and with the insertions of some lineage of the graph that leaves
-- no conflict; the netlist implements the graph, and where the insertions of `synth` leave no
-- conflict it has no more literals than the netlist of `synth`
pub record IsSuggestion (style : Style) (model : List ℕ) (states : List (List ℕ))
    (coded : CodedGraph) (output : List ℕ) : Type 0 where
  pub lineage : History
  pub given_is : lineage.given ≡ coded
  pub line : IsLineage lineage.given lineage.trace lineage.current
  pub free : HasNoConflict lineage.current.coded
  pub netlist : Netlist
  pub is_netlist : IsNetlist netlist
  pub output_is : output ≡ netlist_text netlist
  pub model_is : netlist.model ≡ model
  pub gates_are : netlist ≡ circuit_of style model states lineage
  pub prime : HasPrimeGates lineage.current.coded netlist
  pub is_for : IsFor coded netlist
  pub circuit : IsCircuit lineage netlist
  pub implements : Implements netlist coded.graph
  pub light : IsNoHeavier coded style model states netlist

-- the circuit is that of a suggestion
pub record IsItsCircuit (style : Style) (model : List ℕ) (states : List (List ℕ))
    (coded : CodedGraph) (x : LineageNetlist) : Type 0 where
  pub suggestion : IsSuggestion style model states coded (netlist_text x.netlist)
  pub lineage_is : suggestion.lineage ≡ x.lineage
  pub netlist_is : suggestion.netlist ≡ x.netlist

-- the refusal shows the first conflict that is known to be never resolved, by the names of its
-- states
pub record TellsNever (states : List (List ℕ)) (coded : CodedGraph) (refusal : TextRefusal)
    : Type 0 where
  pub pair : ℕ × ℕ
  pub first : IsFirst pair_place (IsNeverResolved coded) pair
  pub refusal_is : refusal ≡ Unresolvable (state_at states pair.0) (state_at states pair.1)

-- the refusal shows the conflict at which the insertions of `synth` end, and these, and how many
-- candidates were tried, of which nothing is said; no conflict is known to be never resolved
pub record TellsNotFound (states : List (List ℕ)) (coded : CodedGraph) (refusal : TextRefusal)
    : Type 0 where
  pub lineage : History
  pub pair : ℕ × ℕ
  pub not_found : IsNotFound coded lineage pair
  pub tried : ℕ
  pub refusal_is : refusal ≡ NotFound (current_word states lineage pair.0)
      (current_word states lineage pair.1) (insertions_of states lineage) tried

-- why nothing is suggested
abbrev pub TellsWhyNot : (states : List (List ℕ)) → CodedGraph → TextRefusal → Type 0
TellsWhyNot states coded refusal =
    TellsNever states coded refusal ⊎ TellsNotFound states coded refusal

-- what is suggested for a graph of this model and with these names of its states
abbrev pub suggestion : Style → (model : List ℕ) (states : List (List ℕ)) → CodedGraph
    → Stage TextRefusal (List ℕ)
suggestion style model states coded (Ok output) = IsSuggestion style model states coded output
suggestion style model states coded (Err refusal) = TellsWhyNot states coded refusal

abbrev pub suggest : Style → (file text : List ℕ) → Stage TextRefusal (List ℕ)
suggest style file text = do
  given ← graph_in file text
  coded ← proper given.graph given.states
  suggestion style given.model given.states coded

-- ---- what laws say of it

-- where the insertions of `synth` leave no conflict, nothing is refused
abbrev pub ResolvedIsSuggested : Type 0
ResolvedIsSuggested = (style : Style) (model : List ℕ) (states : List (List ℕ)) (c : CodedGraph)
    (trace : List TraceStep) (w : Current) (refusal : TextRefusal)
    → IsLineage c trace w → EndsResolved (given_current c) trace w
    → suggestion style model states c (Err refusal) → ⊥

-- a graph with a conflict that is known to be never resolved has no lineage without conflicts, so
-- that nothing is suggested for it
abbrev pub NeverIsNotSuggested : Type 0
NeverIsNotSuggested = (style : Style) (model : List ℕ) (states : List (List ℕ)) (c : CodedGraph)
    (pair : ℕ × ℕ) (output : List ℕ) → IsNeverResolved c pair
    → suggestion style model states c (Ok output) → ⊥
