-- Acceptance is what the local tests find, and each refusal shows a breach.
use Rattle.std.proofs.Common.{◌<◌, ◌≡◌, ◌≢◌, ℕ, ◌≤◌, ◌↔◌, true, false, List, [], length, slice_get, Some, IsTrue, refl}
use Rattle.std.proofs.Common.{sym, ap, subst, ◌∙◌, arith, inl, inr}
use Rattle.std.proofs.lemmas.Bool.{cases_eq}
use Rattle.si_base.specs.declared.ids.Event.{Event}
use Rattle.si_base.specs.declared.graph.Signal.{Signal}
use Rattle.si_base.specs.declared.graph.SigKind.TheVariants.{Inserted}
use Rattle.si_base.specs.Order.{IsFirst}
use Rattle.si_base.specs.Limits.{max_signals, max_states}
use Rattle.si_base.specs.Graph.{StateGraph, Step, IsGraph, IsNonInput, enables}
use Rattle.si_base.specs.Codes.{CodedGraph, IsCoded, IsDeterministic}
use Rattle.si_base.specs.Proper.{IsProper, Loss, Loses, loss_place}
use Rattle.si_base.proofs.GraphSteps.{enables-step, step_from_enables}
use Rattle.si_insert.specs.declared.partition.Class.{Class}
use Rattle.si_insert.specs.declared.accept.Rejected.{Rejected}
use Rattle.si_insert.specs.declared.accept.Rejected.TheVariants.{DelaysInput, BreaksPersistency, TooLarge, NoCodeBit}
use Rattle.si_insert.specs.Partition.{class_of, IsLawful}
use Rattle.si_insert.specs.Insertion.{Copy, waits, IsInsertedGraph}
use Rattle.si_insert.specs.Accepted.{DelaysNoInput, StaysProper, IsAccepted, copy_count, Delay, delay_place, Delays}
use Rattle.si_insert.specs.Accepted.{LosesAtCopy, ShowsRejected}
use Rattle.si_insert.specs.Loops.Tests.{InputWaits, WaitsAfter}
use Rattle.si_insert.specs.GraphOfCopies.{copies_of, graph_of_copies}
use Rattle.si_insert.proofs.InsertionCopies.{copy, is_copy, given_copied, new_switches, new_stays, new_disables_none}
use Rattle.si_insert.proofs.InsertionProper.{from_copy, leads, goes_on}
use Rattle.si_insert.proofs.AcceptedLosses.{lost_cases, none_moves, driven_before, driven_after, delays_if_held}
use Rattle.si_insert.proofs.AcceptedLosses.{held_if_delays, no_delay, delay_refutes, loses_if_breaks, breaks_if_loses}
use Rattle.si_insert.proofs.AcceptedLosses.{proper_if_none, breach_refutes, same_first}
use Rattle.si_insert.proofs.ApplyInserts.{made_is_insertion}

-- no test finds a breach
pub accepted_if : (c : CodedGraph) (classes : List Class) → IsCoded c → IsProper c.graph → IsLawful c.graph classes
    → ((d : Delay) → InputWaits c.graph classes d → ⊥) → ((b : Loss) → WaitsAfter c.graph classes b → ⊥)
    → copy_count classes ≤ max_states → length c.graph.signals < max_signals → IsAccepted c.graph classes
accepted_if c classes is proper lawful no_wait no_loss few small = record {
  lawful = lawful;
  proper = proper_if_none c classes is proper lawful no_loss;
  inputs = no_delay c.graph classes is.graph_is lawful no_wait;
  few_states = few;
  few_signals = small;
}

-- a breach that a test finds refutes
pub wait_refutes : (g : StateGraph) (classes : List Class) (d : Delay) → IsGraph g → IsDeterministic g
    → InputWaits g classes d → DelaysNoInput g classes → ⊥
wait_refutes g classes d graph one held none =
    delay_refutes g classes d (delays_if_held g classes d graph one held) none

abbrev any_new : Signal
any_new = record { name = []; kind = Inserted }

pub loss_refutes : (c : CodedGraph) (classes : List Class) (b : Loss) → IsCoded c → IsLawful c.graph classes
    → WaitsAfter c.graph classes b → StaysProper c.graph classes → ⊥
loss_refutes c classes b is lawful breach stays =
    let is_made = made_is_insertion c.graph classes any_new is.graph_is lawful refl in
    breach_refutes c classes any_new (copies_of classes) (graph_of_copies c.graph classes any_new) b is lawful is_made
    breach
    (stays any_new (copies_of classes) (graph_of_copies c.graph classes any_new) is_made)

-- the first that the test finds is the first
pub first_delay : (g : StateGraph) (classes : List Class) (d : Delay) → IsGraph g → IsDeterministic g
    → IsLawful g classes → IsFirst delay_place (InputWaits g classes) d → IsFirst delay_place (Delays g classes) d
first_delay g classes d graph one lawful first =
    same_first delay_place (InputWaits g classes) (Delays g classes) d
    (λ y. (delays_if_held g classes y graph one, held_if_delays g classes y graph lawful)) first

pub first_loss : (c : CodedGraph) (classes : List Class) (b : Loss) → IsCoded c → IsProper c.graph
    → IsLawful c.graph classes → IsFirst loss_place (WaitsAfter c.graph classes) b
    → IsFirst loss_place (LosesAtCopy c.graph classes) b
first_loss c classes b is proper lawful first =
    same_first loss_place (WaitsAfter c.graph classes) (LosesAtCopy c.graph classes) b
    (λ y. (
      loses_if_breaks c.graph classes y is.graph_is is.deterministic lawful,
      breaks_if_loses c.graph classes y is.graph_is proper.persistent lawful,
    )) first

-- each refusal shows that the partition isn't accepted
pub rejected_is_not : (c : CodedGraph) (classes : List Class) (why : Rejected) → IsCoded c → IsProper c.graph
    → IsLawful c.graph classes → ShowsRejected c.graph classes why → IsAccepted c.graph classes → ⊥
rejected_is_not c classes (DelaysInput s e) is proper lawful shows accepted =
    delay_refutes c.graph classes (record { s = s; e = e }) shows.holds accepted.inputs
rejected_is_not c classes (BreaksPersistency s lost by) is proper lawful shows accepted =
    loss_refutes c classes (record { s = s; lost = lost; by = by }) is lawful
    (breaks_if_loses c.graph classes (record { s = s; lost = lost; by = by }) is.graph_is proper.persistent lawful
    shows.1.holds) accepted.proper
rejected_is_not c classes (TooLarge states) is proper lawful shows accepted =
    let few = accepted.few_states in omega (arith, few, shows.3, shows.2)
rejected_is_not c classes NoCodeBit is proper lawful shows accepted =
    let few = accepted.few_signals in omega (arith, few, shows.3)

-- ---- the new signal's events at the places of the inserted graph
pub new_never_lost : (g : StateGraph) (classes : List Class) (new : Signal) (copies : List Copy) (h : StateGraph)
    (k : ℕ) (e f : Event) (t : ℕ) → IsGraph g → IsLawful g classes → IsInsertedGraph g classes new copies h
    → e.sig ≡ length g.signals → IsTrue (enables h k e) → Step h k f t → e ≢ f → IsTrue (enables h t e)
new_never_lost g classes new copies h k e f t graph lawful is is_new enabled step apart =
    let z = from_copy g classes new copies h k f t is step in
    let found = step_from_enables h k e enabled in
    let y = leads g classes new copies h k e found.0 z.0 is found.1 z.1 in
    let v = new_stays g classes z.0 e y.0 f z.2 (new_switches g classes z.0 e y.0 graph is_new y.2) z.4 apart in
    let on = goes_on g classes new copies h t e z.2 v.0 graph lawful is z.3 (inr v.1) in
    enables-step h t e on.0 on.2

pub new_loses_none : (g : StateGraph) (classes : List Class) (new : Signal) (copies : List Copy) (h : StateGraph)
    (k : ℕ) (e f : Event) (t : ℕ) → IsGraph g → IsLawful g classes → IsInsertedGraph g classes new copies h
    → f.sig ≡ length g.signals → IsTrue (enables h k e) → Step h k f t → e ≢ f → IsTrue (enables h t e)
new_loses_none g classes new copies h k e f t graph lawful is is_new enabled step apart =
    elim (cases_eq e.sig (length g.signals)) [
      | inl also_new ↦ new_never_lost g classes new copies h k e f t graph lawful is also_new enabled step apart
      | inr given ↦
          (let z = from_copy g classes new copies h k f t is step in
          let found = step_from_enables h k e enabled in
          let y = leads g classes new copies h k e found.0 z.0 is found.1 z.1 in
          let move =
          new_disables_none g classes z.0 e y.0 f z.2 (given_copied g classes z.0 e y.0 given y.2)
          (new_switches g classes z.0 f z.2 graph is_new z.4) in
          let on =
          goes_on g classes new copies h t e z.2 (record { state = y.0.state; value = z.2.value }) graph lawful is z.3
          (inl move) in
          enables-step h t e on.0 on.2)
    ]

-- ---- a loss at a place, exactly
pub lost_there : (c : CodedGraph) (classes : List Class) (new : Signal) (copies : List Copy) (h : StateGraph) (k : ℕ)
    (x : Copy) (lost by : Event) → IsCoded c → IsProper c.graph → IsLawful c.graph classes
    → IsInsertedGraph c.graph classes new copies h → slice_get copies k ≡ Some x
    → Loses h (record { s = k; lost = lost; by = by })
    → (w : WaitsAfter c.graph classes (record { s = x.state; lost = lost; by = by })) × (w.value ≡ x.value)
lost_there c classes new copies h k x lost by is proper lawful inserted at loss =
    let g = c.graph in
    let z = leads g classes new copies h k by loss.after.0 x inserted loss.after.1 at in
    let found = step_from_enables h k lost loss.enabled in
    let y = leads g classes new copies h k lost found.0 x inserted found.1 at in
    let P : List Signal → Type 0 = λ signals. IsNonInput signals lost.sig in
    lost_cases g classes x lost y.0 by z.0 is.graph_is proper.persistent lawful
    (driven_before g new lost.sig (subst P inserted.signals loss.non_input))
    (is_copy g classes new copies h k x inserted at) (is_copy g classes new copies h loss.after.0 z.0 inserted z.1)
    loss.by_another y.2 z.2
    (λ v v_is moves. (let on = goes_on g classes new copies h loss.after.0 lost z.0 v is.graph_is lawful inserted z.1
    moves in loss.after.2 (enables-step h loss.after.0 lost on.0 on.2)))

pub loses_there : (c : CodedGraph) (classes : List Class) (new : Signal) (copies : List Copy) (h : StateGraph) (k : ℕ)
    (x : Copy) (lost by : Event) → IsCoded c → IsLawful c.graph classes → IsInsertedGraph c.graph classes new copies h
    → slice_get copies k ≡ Some x
    → (w : WaitsAfter c.graph classes (record { s = x.state; lost = lost; by = by })) → w.value ≡ x.value
    → Loses h (record { s = k; lost = lost; by = by })
loses_there c classes new copies h k x lost by is lawful inserted at w value =
    let g = c.graph in
    let at_t : waits (class_of classes x.state) (class_of classes w.t) x.value ≡ false =
    ap (waits (class_of classes x.state) (class_of classes w.t)) (sym value) ∙ w.first_goes in
    let at_u : waits (class_of classes x.state) (class_of classes w.u) x.value ≡ false =
    ap (waits (class_of classes x.state) (class_of classes w.u)) (sym value) ∙ w.other_goes in
    let at_w : waits (class_of classes w.u) (class_of classes w.w) x.value ≡ true =
    ap (waits (class_of classes w.u) (class_of classes w.w)) (sym value) ∙ w.late in
    let y =
    goes_on g classes new copies h k lost x (copy w.t x.value) is.graph_is lawful inserted at
    (inl (record { step = w.first; keeps = refl; goes = at_t })) in
    let z =
    goes_on g classes new copies h k by x (copy w.u x.value) is.graph_is lawful inserted at
    (inl (record { step = w.other; keeps = refl; goes = at_u })) in
    let P : List Signal → Type 0 = λ signals. IsNonInput signals lost.sig in
    record {
      non_input = subst P (sym inserted.signals) (driven_after g new lost.sig inserted.kind (inl w.non_input));
      enabled = enables-step h k lost y.0 y.2;
      by_another = w.apart;
      after = (
        z.0,
        z.2,
        λ still. (let found = step_from_enables h z.0 lost still in
            let v = leads g classes new copies h z.0 lost found.0 (copy w.u x.value) inserted found.1 z.1 in
            none_moves g classes (copy w.u x.value) lost w.w v.0 is.graph_is is.deterministic w.next at_w v.2),
      );
    }

-- ---- both directions of acceptance
pub accepts_at_tests : (c : CodedGraph) (classes : List Class) → IsCoded c → IsProper c.graph → IsLawful c.graph classes
    → IsAccepted c.graph classes ↔ (((d : Delay) → InputWaits c.graph classes d → ⊥)
    × ((b : Loss) → WaitsAfter c.graph classes b → ⊥) × (copy_count classes ≤ max_states)
    × (length c.graph.signals < max_signals))
accepts_at_tests c classes is proper lawful = (
  λ a. (
    λ d held. wait_refutes c.graph classes d is.graph_is is.deterministic held a.inputs,
    λ b breach. loss_refutes c classes b is lawful breach a.proper,
    a.few_states,
    a.few_signals,
  ),
  λ t. accepted_if c classes is proper lawful t.0 t.1 t.2 t.3,
)
