-- (command) What is checked of a graph, each as a stage.
use Rattle.std.specs.Prelude.{◌≡◌, ℕ, List, length, Option, None, Some, Ok, Err}
use Rattle.si_base.specs.Codes.{CodedGraph, IsCoded, IsConnected}
use Rattle.si_base.specs.Graph.{StateGraph, IsGraph}
use Rattle.si_base.specs.Netlist.{Netlist}
use Rattle.si_base.specs.NetlistText.{name_of}
use Rattle.si_base.specs.Proper.{IsProper}
use Rattle.si_base.specs.System.{IsFor}
use Rattle.si_checks.specs.Laws.{ProperOrBreach, AllHold, HasSplit, HasNoValues, HasFork, HasLoss}
use Rattle.si_sg.specs.CanonicalText.{state_at, event_word}
use Rattle.si_system.specs.Lists.{ShowsDifference, ShowsUnlike, StartAlike}
use Rattle.si_refusals.specs.Refusal.{TextRefusal, Improper, ListsDiffer}
use Rattle.si_refusals.specs.Stages.{Stage}
use Rattle.si_refusals.specs.declared.breach.NamedBreach.{NamedBreach}
use Rattle.si_refusals.specs.declared.breach.NamedBreach.TheVariants.{Nondeterministic}
use Rattle.si_refusals.specs.declared.breach.NamedBreach.TheVariants.{Inconsistent}
use Rattle.si_refusals.specs.declared.breach.NamedBreach.TheVariants.{Noncommutative}
use Rattle.si_refusals.specs.declared.breach.NamedBreach.TheVariants.{Nonpersistent}

-- a first breach by the names of its states and the words of its events; none where the graph is
-- proper
abbrev pub breach_name : {g : StateGraph} → (states : List (List ℕ)) → ProperOrBreach g
    → Option NamedBreach
breach_name states (AllHold good) = None
breach_name {g} states (HasSplit b first) = Some (Nondeterministic (state_at states b.s)
    (event_word g.signals b.e) (state_at states b.t) (state_at states b.u))
breach_name {g} states (HasNoValues earlier sig first) = Some (Inconsistent (name_of g.signals sig))
breach_name {g} states (HasFork earlier values b first) = Some (Noncommutative (state_at states b.s)
    (event_word g.signals b.a) (event_word g.signals b.c)
    (state_at states b.w) (state_at states b.w2))
breach_name {g} states (HasLoss earlier values squares b first) = Some (Nonpersistent
    (state_at states b.s) (event_word g.signals b.lost) (event_word g.signals b.by))

-- each state of the graph is reachable, and has a name
pub record IsNamed (graph : StateGraph) (states : List (List ℕ)) : Type 0 where
  pub is_graph : IsGraph graph
  pub connected : IsConnected graph
  pub names : length states ≡ graph.states

-- the graph is proper, and these are its codes
pub record IsSound (graph : StateGraph) (coded : CodedGraph) : Type 0 where
  pub coded_is : IsCoded coded
  pub same_graph : coded.graph ≡ graph
  pub proper : IsProper graph

-- the breach that is shown is the graph's first: of determinism, else of consistency, else of
-- commutativity, else of output persistency
abbrev pub ShowsFirstBreach : StateGraph → (states : List (List ℕ)) → NamedBreach → Type 0
ShowsFirstBreach graph states shown =
    (first : ProperOrBreach graph) × (breach_name states first ≡ Some shown)

-- the graph with its codes, where it is proper: else its first breach
abbrev pub proper : StateGraph → (states : List (List ℕ)) → Stage TextRefusal CodedGraph
proper graph states (Ok coded) = IsSound graph coded
proper graph states (Err refusal) = (shown : NamedBreach) × ShowsFirstBreach graph states shown
    × (refusal ≡ Improper shown)

-- the netlist is for it: else the first place, from 1, at which their signals or start values
-- differ
abbrev pub match_lists : (file : List ℕ) → CodedGraph → Netlist → Stage TextRefusal (Unit {0})
match_lists file coded netlist (Ok _) = IsFor coded netlist
match_lists file coded netlist (Err refusal) =
    (place : ℕ) × ShowsDifference coded netlist place × (refusal ≡ ListsDiffer file place)

-- the other graph, of that file, has the signals of the one with the same values at its start: else
-- the first place, from 1, at which they differ
abbrev pub match_graphs : (file : List ℕ) → CodedGraph → CodedGraph → Stage TextRefusal (Unit {0})
match_graphs file one other (Ok _) = StartAlike one other
match_graphs file one other (Err refusal) =
    (place : ℕ) × ShowsUnlike one other place × (refusal ≡ ListsDiffer file place)
