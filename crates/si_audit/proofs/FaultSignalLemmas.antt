-- The signals that a fault shows are the netlist's.
use Rattle.std.proofs.Common.{◌≡◌, ℕ, ◌<◌, ◌≤◌, List, ◌∷◌, ◌++◌, length, ap, arith, inl, inr}
use Rattle.std.proofs.lemmas.List.{length-append, length-map}
use Rattle.std.proofs.lemmas.Option.{slice_get_within}
use Rattle.si_base.specs.declared.graph.Signal.{Signal}
use Rattle.si_base.specs.declared.ids.Event.{Event}
use Rattle.si_base.specs.Codes.{CodedGraph}
use Rattle.si_base.specs.Graph.{StateGraph, IsGraph}
use Rattle.si_base.specs.Limits.{max_signals}
use Rattle.si_base.specs.Netlist.{Insertion, Netlist}
use Rattle.si_base.specs.System.{IsFor}
use Rattle.si_base.specs.WellFormed.{IsNetlist}
use Rattle.si_base.proofs.RightGateLemmas.{step_within}
use Rattle.si_insert.specs.declared.partition.Class.{Class}
use Rattle.si_insert.specs.declared.accept.Rejected.{Rejected}
use Rattle.si_insert.specs.declared.accept.Rejected.TheVariants.{DelaysInput, BreaksPersistency, TooLarge, NoCodeBit}
use Rattle.si_insert.specs.Accepted.{IsDriven, ShowsRejected}
use Rattle.si_insert.specs.Insertion.{Copy, Moves, new_signal}
use Rattle.si_insert.specs.Lineage.{History, given_history}
use Rattle.si_insert.proofs.InsertionKeeps.{keeps}
use Rattle.si_audit.specs.declared.fault.AuditFault.{AuditFault}
use Rattle.si_audit.specs.declared.fault.AuditFault.TheVariants.{NoMemory, States, Classes, Refused, Start, Gate}
use Rattle.si_audit.specs.Audit.{TakesAll}
use Rattle.si_audit.specs.Faults.{ShowsFault}
use Rattle.si_audit.specs.Laws.{CanBeAudited}
use Rattle.si_audit.specs.Loops.FaultSignals.{AreAmong, TellsOf}
use Rattle.si_audit.proofs.OneAudit.{spelled_all, spelled_first}
use Rattle.si_audit.proofs.WalkSignals.{new_of, signals_are}
use Rattle.si_audit.proofs.WalkLemmas.{signals_grow}

driven_in : (g : StateGraph) (a n : ℕ) → length g.signals < n → IsDriven g a → a < n
driven_in g a n more (inl gate) = omega (arith, slice_get_within g.signals a gate.0 gate.1)
driven_in g a n more (inr new) = omega arith

moves_in : (g : StateGraph) (classes : List Class) (x y : Copy) (e : Event) (n : ℕ) → IsGraph g → length g.signals < n
    → Moves g classes x e y → e.sig < n
moves_in g classes x y e n graph more (inl copied) =
    (let parts = step_within g x.state e y.state graph copied.step in omega (arith, parts.1))
moves_in g classes x y e n graph more (inr switch) = omega (arith, switch.new)

pub among : (g : StateGraph) (classes : List Class) (signals : List Signal) (why : Rejected) → IsGraph g
    → length g.signals < length signals → length signals ≤ max_signals → ShowsRejected g classes why
    → AreAmong signals why
among g classes signals (DelaysInput s e) graph more few shows =
    (let input = shows.holds.input in omega (arith, slice_get_within g.signals e.sig input.0 input.1))
among g classes signals (BreaksPersistency s lost by) graph more few shows = (
  driven_in g lost.sig (length signals) more shows.1.holds.non_input,
  moves_in g classes shows.1.holds.copy shows.1.holds.after by (length signals) graph more shows.1.holds.leads,
)
among g classes signals (TooLarge count) graph more few shows = tt
among g classes signals NoCodeBit graph more few shows = absurd (omega (arith, shows.3))

-- before an insertion of the netlist the graph has fewer signals than the netlist
fewer_before : (states : List (List ℕ)) (c : CodedGraph) (n : Netlist) (before : List Insertion) (i : Insertion)
    (after : List Insertion) (l : History) → IsNetlist n → IsFor c n → n.inserts ≡ before ++ i ∷ after
    → TakesAll states (given_history c) before l → length l.current.coded.graph.signals < length n.signals
fewer_before states c n before i after l is fits cut taken =
    let all = ap (length {A = Signal}) (signals_are c n is fits) in
    let now = ap (length {A = Signal}) (signals_grow states (given_history c) before l taken) in
    let count = ap (length {A = Insertion}) cut in
    let wholes = length-map n.inserts (λ (j : Insertion). new_signal j.name) in
    let fronts = length-map before (λ (j : Insertion). new_signal j.name) in
    omega (
      arith,
      all,
      now,
      count,
      wholes,
      fronts,
      length-append c.graph.signals (new_of n.inserts),
      length-append c.graph.signals (new_of before),
      length-append before (i ∷ after),
    )

pub tells : (states : List (List ℕ)) (c : CodedGraph) (n : Netlist) (fault : AuditFault) → CanBeAudited states c n
    → ShowsFault states c n fault → TellsOf n.signals fault
tells states c n NoMemory can shows = tt
tells states c n (States k) can shows = tt
tells states c n (Classes k) can shows = tt
tells states c n (Refused k state why) can shows =
    let l = shows.lineage in
    let spelled = spelled_all states (given_history c) shows.before l (spelled_first states c n can) shows.taken in
    let graph = (keeps l.given l.trace l.current spelled.lineage).coded.graph_is in
    among l.current.coded.graph shows.stops.1.classes n.signals why graph
    (fewer_before states c n shows.before shows.insertion shows.after l can.netlist can.fits shows.cut shows.taken)
    can.netlist.few shows.stops.1.shows
tells states c n (Start sig) can shows = shows.stops.holds.there
tells states c n (Gate sig state) can shows =
    (let gate = shows.stops.first.holds.gate in slice_get_within n.signals sig gate.0 gate.1)
