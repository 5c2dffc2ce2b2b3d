-- What is told of an outcome of a replay.
use Rattle.std.specs.Prelude.{◌≡◌, ℕ, ◌<◌, List, length, Some, slice_get}
use Rattle.si_base.specs.Netlist.{Netlist}
use Rattle.si_base.specs.NetlistText.{name_of}
use Rattle.si_base.specs.declared.graph.Signal.{Signal}
use Rattle.si_base.specs.declared.ids.Event.{Event}
use Rattle.si_system.specs.declared.replay.Outcome.{Outcome}
use Rattle.si_system.specs.declared.replay.Outcome.TheVariants as outcome
use Rattle.si_system.specs.declared.verdict.Verdict.{Verdict}
use Rattle.si_refusals.specs.Ending.{Ending, NoMemory, Answered}
use Rattle.si_refusals.specs.Refusal.{TextRefused, Differs}
use Rattle.si_reports.specs.Replayed.{output_of, shown_signal}
use Rattle.si_reports.specs.declared.replay_kind.ReplayReport.{ReplayReport}

-- the replay departs from the graph at this event, with the signal shown and the verdict, or memory
-- ran out
abbrev pub EndsDiffering : ℕ → List ℕ → Verdict → Ending → Type 0
EndsDiffering step signal verdict NoMemory = Unit {0}
EndsDiffering step signal verdict (Answered (TextRefused refusal)) = refusal
    ≡ Differs step signal verdict
EndsDiffering step signal verdict ending = ⊥

-- an outcome that ends at a state has a name for it
abbrev pub HasName : List (List ℕ) → Outcome → Type 0
HasName states (outcome.Done values state) = state < length states
HasName states (outcome.Differs step event verdict) = Unit {0}

-- the text tells of a schedule that goes to its end
abbrev pub TellsEnd : ReplayReport → Netlist → List Event → List (List ℕ) → Outcome → List ℕ
    → Type 0
TellsEnd what netlist events states (outcome.Done values state) text = (name : List ℕ)
    × (slice_get states state ≡ Some name) × (text ≡ output_of what netlist events values name)
TellsEnd what netlist events states (outcome.Differs step event verdict) text = ⊥

-- the call stops with the event that departs from the graph
abbrev pub TellsDifference : List Signal → Outcome → Ending → Type 0
TellsDifference signals (outcome.Done values state) NoMemory = Unit {0}
TellsDifference signals (outcome.Done values state) ending = ⊥
TellsDifference signals (outcome.Differs step event verdict) ending =
    EndsDiffering step (name_of signals (shown_signal event verdict)) verdict ending
