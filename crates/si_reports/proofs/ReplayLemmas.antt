-- Where the schedule of a replay ends.
use Rattle.std.proofs.Common.{◌≡◌, ℕ, ◌<◌, List, [], ◌∷◌, length, Option, Some, sym, subst, arith}
use Rattle.si_base.specs.declared.ids.Event.{Event}
use Rattle.si_base.specs.declared.graph.SigKind.{SigKind}
use Rattle.si_base.specs.declared.graph.SigKind.TheVariants.{Input, Output, Internal, Inserted}
use Rattle.si_base.specs.Graph.{StateGraph, IsGraph}
use Rattle.si_base.specs.Netlist.{Netlist}
use Rattle.si_base.specs.System.{State, May, Fires, start}
use Rattle.si_base.proofs.RightGateLemmas.{step_within}
use Rattle.si_system.specs.Outcome.{Passes as PassesAll, IsOutcome}
use Rattle.si_system.specs.declared.replay.Outcome.{Outcome}
use Rattle.si_system.specs.declared.replay.Outcome.TheVariants as outcome
use Rattle.si_refusals.specs.Ending.{Ending, NoMemory, Answered, MayStop}
use Rattle.si_refusals.specs.Refusal.{TextRefused}
use Rattle.si_reports.specs.Loops.Outcomes.{HasName, TellsEnd, TellsDifference}
use Rattle.si_reports.specs.Replayed.{IsReplay, replay_end}
use Rattle.si_reports.specs.declared.replay_kind.ReplayReport.{ReplayReport}

may_within : (kind : SigKind) (g : StateGraph) (n : Netlist) (values s : ℕ) (e : Event) (t : ℕ) → IsGraph g
    → s < g.states → May kind g n values s e (Some t) → t < g.states
may_within Input g n values s e t is inside may = (step_within g s e t is may.1.step).2
may_within Output g n values s e t is inside may = (step_within g s e t is may.1.step).2
may_within Internal g n values s e t is inside may = (step_within g s e t is may.1.step).2
may_within Inserted g n values s e t is inside may =
    (let same : t ≡ s = cc may.1 in subst (λ (u : ℕ). u < g.states) (sym same) inside)

-- the graph is at one of its states, or the system is astray
abbrev IsInside : StateGraph → State → Type 0
IsInside g x = (s : ℕ) → x.place ≡ Some s → s < g.states

fires_inside : (g : StateGraph) (n : Netlist) (x : State) (e : Event) (y : State) → IsGraph g → IsInside g x
    → Fires g n x e y → IsInside g y
fires_inside g n x e y is inside fires t at =
    let may = subst (λ (p : Option ℕ). May fires.signal.kind g n x.values fires.at e p) at fires.may in
    may_within fires.signal.kind g n x.values fires.at e t is (inside fires.at fires.not_astray) may

passes_inside : (g : StateGraph) (n : Netlist) (x : State) (es : List Event) (y : State) → IsGraph g → IsInside g x
    → PassesAll g n x es y → IsInside g y
passes_inside g n x [] y is inside passes = subst (λ (z : State). IsInside g z) passes inside
passes_inside g n x (e ∷ es) y is inside passes =
    passes_inside g n passes.0 es y is (fires_inside g n x e passes.0 is inside passes.1.0) passes.2

starts_inside : (g : StateGraph) (n : Netlist) → IsGraph g → IsInside g (start g n)
starts_inside g n is s at = (let same : g.start ≡ s = cc at in subst (λ (u : ℕ). u < g.states) same is.starts)

-- a schedule ends at a state of the graph
pub ends_inside : (g : StateGraph) (n : Netlist) (es : List Event) (values state : ℕ) → IsGraph g
    → IsOutcome g n (start g n) es (outcome.Done values state) → state < g.states
ends_inside g n es values state is out =
    passes_inside g n (start g n) es out.0 is (starts_inside g n is) out.1 state out.3

-- ---- what an outcome tells

pub has_name : (graph : StateGraph) (states : List (List ℕ)) (net : Netlist) (events : List Event) (o : Outcome)
    → IsGraph graph → length states ≡ graph.states → IsOutcome graph net (start graph net) events o
    → HasName states o
has_name graph states net events (outcome.Done values state) is many out =
    let inside : state < graph.states = ends_inside graph net events values state is out in
    omega arith
has_name graph states net events (outcome.Differs step event verdict) is many out = tt

pub told_end : (what : ReplayReport) (graph : StateGraph) (states : List (List ℕ)) (net : Netlist)
    (events : List Event) (o : Outcome) (text : List ℕ) → IsOutcome graph net (start graph net) events o
    → TellsEnd what net events states o text → IsReplay what graph states net events text
told_end what graph states net events (outcome.Done values state) text out tells = record {
  values = values;
  state = state;
  outcome_is = out;
  name = tells.0;
  named = tells.1;
  output_is = tells.2;
}
told_end what graph states net events (outcome.Differs step event verdict) text out tells = absurd tells

pub told_departure : (what : ReplayReport) (graph : StateGraph) (states : List (List ℕ)) (net : Netlist)
    (events : List Event) (o : Outcome) (e : Ending) → IsOutcome graph net (start graph net) events o
    → TellsDifference net.signals o e → MayStop (replay_end what graph states net events) e
told_departure what graph states net events (outcome.Done values state) NoMemory out tells = tt
told_departure what graph states net events (outcome.Done values state) e out tells = absurd tells
told_departure what graph states net events (outcome.Differs step event verdict) NoMemory out tells = tt
told_departure what graph states net events (outcome.Differs step event verdict) (Answered (TextRefused r)) out tells =
    record { step = step; event = event; verdict = verdict; outcome_is = out; refusal_is = tells }
told_departure what graph states net events (outcome.Differs step event verdict) e out tells = absurd tells
