-- (command) What is told of a schedule that is replayed, over a netlist beside a graph.
use Rattle.std.specs.Prelude.{◌≡◌, ℕ, List, [], ◌∷◌, length, codes, decimal}
use Rattle.std.specs.Prelude.{Some, slice_get, Ok, Err}
use Rattle.si_base.specs.declared.ids.Event.{Event}
use Rattle.si_base.specs.declared.graph.Signal.{Signal}
use Rattle.si_base.specs.Netlist.{Netlist}
use Rattle.si_base.specs.Graph.{StateGraph}
use Rattle.si_base.specs.NetlistText.{bits_from, name_of, word_if_any}
use Rattle.si_base.specs.System.{start}
use Rattle.si_base.specs.Words.{text_of}
use Rattle.si_system.specs.Outcome.{IsOutcome}
use Rattle.si_system.specs.declared.replay.Outcome.TheVariants as outcome
use Rattle.si_system.specs.declared.verdict.Verdict.{Verdict}
use Rattle.si_system.specs.declared.verdict.Verdict.TheVariants.{Done, Blocked, Astray, Lost}
use Rattle.si_refusals.specs.Refusal.{TextRefusal, Differs}
use Rattle.si_refusals.specs.Stages.{Stage, ◌>>=◌}
use Rattle.si_readings.specs.Checks.{match_lists, proper}
use Rattle.si_reports.specs.declared.replay_kind.ReplayReport.{ReplayReport}
use Rattle.si_reports.specs.declared.replay_kind.ReplayReport.TheVariants.{End, Wave}
use Rattle.si_wave.specs.Wave.{wave_text}

-- the signal that a refusal shows: the one whose excitation was lost, or else the event's
abbrev pub shown_signal : Event → Verdict → ℕ
shown_signal event Done = event.sig
shown_signal event Blocked = event.sig
shown_signal event (Astray sig) = sig
shown_signal event (Lost sig) = sig

-- how many events, the values of the signals, and the state at which the graph then is
abbrev pub replay_text : ℕ → List Signal → ℕ → List ℕ → List ℕ
replay_text events signals values state = text_of ((codes "done" ∷ decimal events ∷ [])
    ∷ (codes "values" ∷ word_if_any (bits_from 0 signals values))
    ∷ (codes "state" ∷ state ∷ []) ∷ [])

-- of events that end with these values at the state of this name: the end; or the values from event
-- to event
abbrev pub output_of : ReplayReport → Netlist → List Event → (values : ℕ) → (state : List ℕ)
    → List ℕ
output_of End netlist events values state =
    replay_text (length events) netlist.signals values state
output_of Wave netlist events values state = wave_text netlist events

-- the schedule goes to its end, over a graph whose states have these names, and the output tells of
-- it
pub record IsReplay (what : ReplayReport) (graph : StateGraph) (states : List (List ℕ))
    (netlist : Netlist) (events : List Event) (output : List ℕ) : Type 0 where
  pub values : ℕ
  pub state : ℕ
  pub outcome_is : IsOutcome graph netlist (start graph netlist) events (outcome.Done values state)
  pub name : List ℕ
  pub named : slice_get states state ≡ Some name
  pub output_is : output ≡ output_of what netlist events values name

-- the refusal shows the first event, counted from 1, whose verdict isn't `Done`
pub record IsDifference (graph : StateGraph) (netlist : Netlist) (events : List Event)
    (refusal : TextRefusal) : Type 0 where
  pub step : ℕ
  pub event : Event
  pub verdict : Verdict
  pub outcome_is : IsOutcome graph netlist (start graph netlist) events
      (outcome.Differs step event verdict)
  pub refusal_is : refusal
      ≡ Differs step (name_of netlist.signals (shown_signal event verdict)) verdict

-- what is told of the schedule: else the first event that departs from the graph
abbrev pub replay_end : ReplayReport → StateGraph → (states : List (List ℕ)) → Netlist
    → List Event → Stage TextRefusal (List ℕ)
replay_end what graph states netlist events (Ok output) =
    IsReplay what graph states netlist events output
replay_end what graph states netlist events (Err refusal) =
    IsDifference graph netlist events refusal

-- the same, where the graph is proper, and the netlist has its lists
abbrev pub replay_on : ReplayReport → (netlist : List ℕ) → StateGraph → (states : List (List ℕ))
    → Netlist → List Event → Stage TextRefusal (List ℕ)
replay_on what netlist graph states n events = do
  coded ← proper graph states
  _ ← match_lists netlist coded n
  replay_end what graph states n events
