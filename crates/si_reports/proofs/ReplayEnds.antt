-- A replay ends at one state, or departs at one event.
use Rattle.std.proofs.Common.{◌≡◌, ℕ, ◌<◌, List, [], length, Ok, Err, slice_get, get_or, refl, sym, ap, ap₂, ◌∙◌}
use Rattle.std.proofs.Common.{inl, inr}
use Rattle.std.proofs.lemmas.Option.{slice_get-get_or}
use Rattle.si_base.specs.declared.ids.Event.{Event}
use Rattle.si_base.specs.Graph.{StateGraph}
use Rattle.si_base.specs.Netlist.{Netlist}
use Rattle.si_base.specs.NetlistText.{name_of}
use Rattle.si_base.specs.System.{start}
use Rattle.si_readings.specs.Checks.{IsNamed}
use Rattle.si_readings.specs.Laws.{AtMostOne, HasResult}
use Rattle.si_refusals.specs.Refusal.{TextRefusal, Differs, Unresolved}
use Rattle.si_system.proofs.OutcomeExists.{some_outcome}
use Rattle.si_system.proofs.UniqueOutcome.{one_outcome}
use Rattle.si_system.specs.Outcome.{IsOutcome}
use Rattle.si_system.specs.declared.replay.Outcome.{Outcome}
use Rattle.si_system.specs.declared.replay.Outcome.TheVariants as outcome
use Rattle.si_reports.specs.Laws.{EndsOrDiffers}
use Rattle.si_reports.specs.Replayed.{IsReplay, IsDifference, output_of, replay_end, shown_signal}
use Rattle.si_reports.specs.declared.replay_kind.ReplayReport.{ReplayReport}
use Rattle.si_reports.proofs.ReplayLemmas.{has_name}

pub replay_end_one : (what : ReplayReport) (graph : StateGraph) (states : List (List ℕ)) (netlist : Netlist)
    (events : List Event) → AtMostOne (replay_end what graph states netlist events)
replay_end_one what graph states netlist events (Ok a) (Ok b) one other =
    let same = one_outcome graph netlist (start graph netlist) events (outcome.Done one.values one.state)
    (outcome.Done other.values other.state) one.outcome_is other.outcome_is in
    let values : one.values ≡ other.values = cc in
    let state : one.state ≡ other.state = cc in
    let named = sym one.named ∙ ap (λ (k : ℕ). slice_get states k) state ∙ other.named in
    let names : one.name ≡ other.name = cc in
    ap Ok (one.output_is ∙ ap₂ (λ (v : ℕ) (n : List ℕ). output_of what netlist events v n) values names
    ∙ sym other.output_is)
replay_end_one what graph states netlist events (Ok a) (Err r) one other =
    let same = one_outcome graph netlist (start graph netlist) events (outcome.Done one.values one.state)
    (outcome.Differs other.step other.event other.verdict) one.outcome_is other.outcome_is in
    cc
replay_end_one what graph states netlist events (Err r) (Ok b) one other =
    let same = one_outcome graph netlist (start graph netlist) events
    (outcome.Differs one.step one.event one.verdict)
    (outcome.Done other.values other.state) one.outcome_is other.outcome_is in
    cc
replay_end_one what graph states netlist events (Err r) (Err q) one other =
    let same = one_outcome graph netlist (start graph netlist) events
    (outcome.Differs one.step one.event one.verdict)
    (outcome.Differs other.step other.event other.verdict) one.outcome_is other.outcome_is in
    ap Err (one.refusal_is ∙ ap go same ∙ sym other.refusal_is)
  where
    go : Outcome → TextRefusal
    go (outcome.Done values state) = Unresolved [] [] []
    go (outcome.Differs step event verdict) =
        Differs step (name_of netlist.signals (shown_signal event verdict)) verdict

pub ends_or_departs : (what : ReplayReport) (graph : StateGraph) (states : List (List ℕ)) (net : Netlist)
    (events : List Event) → IsNamed graph states → EndsOrDiffers (replay_end what graph states net events)
ends_or_departs what graph states net events is =
    let some = some_outcome graph net (start graph net) events refl in
    go some.0 some.1
  where
    go : (o : Outcome) → IsOutcome graph net (start graph net) events o
        → EndsOrDiffers (replay_end what graph states net events)
    go (outcome.Done values state) out =
        let within : state < length states =
        has_name graph states net events (outcome.Done values state) is.is_graph is.names out in
        let name : List ℕ = get_or states state [] in
        let named = slice_get-get_or states state [] within in
        let ends : IsReplay what graph states net events (output_of what net events values name) =
        record { values = values; state = state; outcome_is = out; name = name; named = named; output_is = refl } in
        inl (output_of what net events values name, ends)
    go (outcome.Differs step event verdict) out =
        let signal = name_of net.signals (shown_signal event verdict) in
        let departs : IsDifference graph net events (Differs step signal verdict) =
        record { step = step; event = event; verdict = verdict; outcome_is = out; refusal_is = refl } in
        inr (step, signal, verdict, departs)

pub replay_end_some : (what : ReplayReport) (graph : StateGraph) (states : List (List ℕ)) (net : Netlist)
    (events : List Event) → IsNamed graph states → HasResult (replay_end what graph states net events)
replay_end_some what graph states net events is = elim (ends_or_departs what graph states net events is) [
  | inl ends ↦ (Ok ends.0, ends.1)
  | inr departs ↦ (Err (Differs departs.0 departs.1 departs.2), departs.3)
]
